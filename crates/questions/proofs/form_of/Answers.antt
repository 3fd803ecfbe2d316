-- `form_of` meets its contract: each `return` is a case of `form`.
use Prim.Native.Nat.{ℕ}
use mathlib.Core.Path.{sym, ap₂, ◌∙◌}
use Rattle.model.proofs.Bools.{said_no, said_yes}
use Rattle.model.specs.Answers.{accepted}
use Rattle.questions.specs.Reading.{counts}
use Rattle.questions.proofs.ReadingLaws.{form_1, form_2, form_3, form_4, form_yes}
use Rattle.questions.proofs.FormLaws.{some_yards, few_yards}
use Rattle.questions.proofs.form_of.Goals as goal

pub returns-then-not-length_good : goal.returns-then-not-length_good
returns-then-not-length_good c = sym (form_1 _ (said_no c.length_good.ensures c.if-not-length_good.true))

pub returns-then-not-records_good : goal.returns-then-not-records_good
returns-then-not-records_good c = sym (form_2 _ (said_yes c.length_good.ensures c.if-not-length_good.false) (said_no c.records_good.ensures c.if-not-records_good.true))

pub returns-then-not-yards_good : goal.returns-then-not-yards_good
returns-then-not-yards_good c = sym (form_3 _ (said_yes c.length_good.ensures c.if-not-length_good.false)
    (said_yes c.records_good.ensures c.if-not-records_good.false)
    (said_no c.yards_good.ensures c.if-not-yards_good.true))

pub farm_count-farms-requires : goal.farm_count-farms-requires
farm_count-farms-requires c = let y = c.leading_yards-yards.ensures in
    (y, rw y (some_yards _ (said_yes c.yards_good.ensures c.if-not-yards_good.false)))

pub hauls_good-requires : goal.hauls_good-requires
hauls_good-requires c = let y = c.leading_yards-yards.ensures in
    (y, c.farm_count-farms.ensures, rw y (few_yards _ (said_yes c.yards_good.ensures c.if-not-yards_good.false)))

pub returns-then-not-hauls_good : goal.returns-then-not-hauls_good
returns-then-not-hauls_good c = sym (form_4 _ (said_yes c.length_good.ensures c.if-not-length_good.false)
    (said_yes c.records_good.ensures c.if-not-records_good.false)
    (said_yes c.yards_good.ensures c.if-not-yards_good.false)
    (said_no c.hauls_good.ensures c.if-not-hauls_good.true))

pub returns : goal.returns
returns c = ap₂ (λ (m n : ℕ). accepted (counts m n)) c.leading_yards-yards.ensures c.farm_count-farms.ensures
    ∙ sym (form_yes _ record {
      first = said_yes c.length_good.ensures c.if-not-length_good.false;
      second = said_yes c.records_good.ensures c.if-not-records_good.false;
      third = said_yes c.yards_good.ensures c.if-not-yards_good.false;
      fourth = said_yes c.hauls_good.ensures c.if-not-hauls_good.false;
    })
