-- `loads::farm_loaded` meets its contract: the test of each haul record is the one that question 10 makes.
use native.Mathlib.Omega.{arith}
use mathlib.Core.Path.{◌≡◌, refl, ◌∙◌}
use mathlib.Core.Bool.{◌&&◌}
use lib.Dec.{eqb, leb}
use Rattle.std.proofs.Common.{rules, tests}
use Rattle.record.specs.Records.{whole_record_at}
use Rattle.record.proofs.RecordLaws.{whole}
use Rattle.questions.specs.Bounds.{most_loads}
use Rattle.questions.specs.Sheet.{place}
use Rattle.questions.specs.Questions.{farm_loaded}
use Rattle.questions.proofs.QuestionLaws.{loaded_read}
use Rattle.questions.proofs.RangeLaws.{all_in_range}
use Rattle.questions.proofs.loads.farm_loaded.Goals as goal

pub returns : goal.returns
unfolding farm_loaded
returns c = let s = c.args.sheet.now in let m = c.args.m in let p = c.args.p in let first = c.at-first.result in
    all_in_range _ _ _ c.all.ensures.ran (λ a b q k. let r = whole_record_at s (place m p a) in
    let test : b ≡ (eqb r.byte3 first.byte3 && leb r.byte3 most_loads) = search (rules, tests) in
    (search rules, λ l. test ∙ loaded_read s _ r (whole s _ (omega arith)) m p a first (c.at-first.ensures ∙ whole s _ (omega arith)) refl))
