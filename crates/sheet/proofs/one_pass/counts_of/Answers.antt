-- `one_pass::counts_of` meets its contract: counts are given only after every test, and each test that fails is a fault.
use mathlib.Core.Path.{refl, sym, subst}
use native.Mathlib.Omega.{arith}
use Rattle.model.proofs.Bools.{said_no, said_yes}
use Rattle.questions.proofs.QuestionLaws.{right_length}
use Rattle.questions.proofs.FormLaws.{yards_le}
use Rattle.sheet.specs.OnePass.{Told}
use Rattle.sheet.proofs.one_pass.OnePassLaws.{yards_counted, passes}
use Rattle.sheet.proofs.ToldLaws.{bad_length, bad_yards, bad_farms, left_over, bad_farm}
use Rattle.sheet.proofs.one_pass.counts_of.Goals as goal

pub returns-then-sheet-ne0 : goal.returns-then-sheet-ne0
returns-then-sheet-ne0 c = bad_length _ (λ good. omega (arith, good.0, c.if-sheet-ne0.true))

pub returns-then-sheet-lt-LEAST_BYTES : goal.returns-then-sheet-lt-LEAST_BYTES
returns-then-sheet-lt-LEAST_BYTES c = bad_length _ (λ good. omega (arith, good.1, c.if-sheet-lt-LEAST_BYTES.true))

pub returns-then-sheet-gt-MOST_BYTES : goal.returns-then-sheet-gt-MOST_BYTES
returns-then-sheet-gt-MOST_BYTES c = bad_length _ (λ good. omega (arith, good.2, c.if-sheet-gt-MOST_BYTES.true))

pub returns-in_err-yards : goal.returns-in_err-yards
returns-in_err-yards c = subst (λ r. Told c.args.sheet.now r c.args.table.now) (sym c.from_residual.ensures) (bad_yards _ 0 c.in_err-yards.ensures (omega arith))

pub returns-then-yards-lt1 : goal.returns-then-yards-lt1
returns-then-yards-lt1 c = bad_yards _ _ c.in_ok-yards.ensures c.if-yards-lt1.true

pub overflow_sub-hauls : goal.overflow_sub-hauls
overflow_sub-hauls c = let s = c.args.sheet.now in
    omega (arith, (yards_counted s _ c.in_ok-yards.ensures c.if-yards-lt1.false).0, yards_le s)

pub returns-then-farms-lt1 : goal.returns-then-farms-lt1
returns-then-farms-lt1 c = bad_farms _ _ c.in_ok-yards.ensures _ refl (λ good. omega (arith, good.0, c.if-farms-lt1.true))

pub returns-then-farms-gt-MOST_FARMS : goal.returns-then-farms-gt-MOST_FARMS
returns-then-farms-gt-MOST_FARMS c = bad_farms _ _ c.in_ok-yards.ensures _ refl (λ good. omega (arith, good.1, c.if-farms-gt-MOST_FARMS.true))

pub returns-then-hauls-farms : goal.returns-then-hauls-farms
returns-then-hauls-farms c = left_over _ _ c.in_ok-yards.ensures _ refl c.if-hauls-farms.true

pub good_farms-requires : goal.good_farms-requires
good_farms-requires c = let led = yards_counted c.args.sheet.now _ c.in_ok-yards.ensures c.if-yards-lt1.false in
    (record { room = omega (arith, led.0, yards_le c.args.sheet.now); some_yards = c.if-yards-lt1.false; few_yards = led.1; few_farms = omega arith }, c.requires)

pub returns-then-not-good_farms : goal.returns-then-not-good_farms
returns-then-not-good_farms c = bad_farm _ _ c.in_ok-yards.ensures _ refl (said_no c.good_farms.ensures.good c.if-not-good_farms.true)

pub returns : goal.returns
returns c = (
  passes _ _ _ (right_length _ (omega arith) (omega arith) (omega arith)) c.in_ok-yards.ensures (omega arith) refl (omega arith) (omega arith)
      c.if-hauls-farms.false (said_yes c.good_farms.ensures.good c.if-not-good_farms.false),
  c.good_farms.ensures.filled c.if-not-good_farms.false,
)
