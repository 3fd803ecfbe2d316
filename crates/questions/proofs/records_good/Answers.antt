-- `records_good` meets its contract: the test of each record is the one that question 2 makes.
use native.Mathlib.Omega.{arith}
use mathlib.Core.Path.{◌≡◌, ◌∙◌}
use Rattle.std.proofs.Common.{rules}
use Rattle.record.specs.Records.{whole_record_at}
use Rattle.record.proofs.RecordLaws.{whole}
use Rattle.questions.specs.Questions.{well_formed, question2}
use Rattle.questions.proofs.QuestionLaws.{well_formed_read}
use Rattle.questions.proofs.RangeLaws.{all_in_range}
use Rattle.questions.proofs.records_good.Goals as goal

pub returns : goal.returns
unfolding question2
returns c = let s = c.args.sheet.now in
    all_in_range _ _ _ c.all.ensures.ran (λ i b q k. let test : b ≡ well_formed (whole_record_at s i) = search rules in
    (search rules, λ l. test ∙ well_formed_read s i _ (whole s i (omega arith))))
