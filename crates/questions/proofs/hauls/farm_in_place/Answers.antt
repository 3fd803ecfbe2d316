-- `hauls::farm_in_place` meets its contract: the test of each haul record is the one that question 4 makes.
use native.Mathlib.Omega.{arith}
use mathlib.Core.Path.{◌≡◌, refl, ◌∙◌}
use mathlib.Core.Bool.{◌&&◌}
use lib.Dec.{eqb}
use Rattle.std.proofs.Common.{rules, tests}
use Rattle.record.specs.Records.{whole_record_at}
use Rattle.record.proofs.RecordLaws.{whole}
use Rattle.questions.specs.Sheet.{place}
use Rattle.questions.specs.Questions.{farm_in_place}
use Rattle.questions.proofs.QuestionLaws.{in_place_read}
use Rattle.questions.proofs.RangeLaws.{all_in_range}
use Rattle.questions.proofs.hauls.farm_in_place.Goals as goal

pub returns : goal.returns
unfolding farm_in_place
returns c = let s = c.args.sheet.now in let m = c.args.m in let p = c.args.p in
    all_in_range _ _ _ c.all.ensures.ran (λ a b q k. let r = whole_record_at s (place m p a) in
    let test : b ≡ (eqb r.yard a && eqb r.farm p) = search (rules, tests) in
    (search rules, λ l. test ∙ in_place_read s _ r (whole s _ (omega arith)) m p a refl))
