-- `hauls::hauls_good` meets its contract: the first test that fails decides question 4.
use mathlib.Core.Path.{◌≡◌, sym, ◌∙◌}
use native.Mathlib.Omega.{arith}
use Prim.Native.Nat.{◌*◌}
use Rattle.questions.specs.Sheet.{yards, hauls, farms}
use Rattle.questions.proofs.QuestionLaws.{no_farms, many_farms, uneven, even}
use Rattle.questions.proofs.FormLaws.{yards_le, hauls_are}
use Rattle.questions.proofs.hauls.hauls_good.Goals as goal

pub returns-then-n-lt1 : goal.returns-then-n-lt1
returns-then-n-lt1 c = sym (no_farms _ (omega arith))

pub returns-then-n-gt-MOST_FARMS : goal.returns-then-n-gt-MOST_FARMS
returns-then-n-gt-MOST_FARMS c = sym (many_farms _ (omega arith) (omega arith))

pub overflow_sub-sheet : goal.overflow_sub-sheet
overflow_sub-sheet c = omega (arith, yards_le c.args.sheet.now)

pub returns-then-sheet-m : goal.returns-then-sheet-m
returns-then-sheet-m c = sym (uneven _ (λ e. c.if-sheet-m.true (rw (c.requires.0, c.requires.1) (sym (hauls_are c.args.sheet.now) ∙ e))))

pub returns : goal.returns
returns c = let e : hauls c.args.sheet.now ≡ farms c.args.sheet.now * yards c.args.sheet.now =
    hauls_are c.args.sheet.now ∙ rw (← c.requires.0, ← c.requires.1) c.if-sheet-m.false in
    c.farms_in_place.ensures ∙ rw (c.requires.0, c.requires.1) (even _ (omega arith) (omega arith) e)
