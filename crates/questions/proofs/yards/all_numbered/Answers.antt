-- `yards::all_numbered` meets its contract: the test of each record is the one that question 3 makes.
use native.Mathlib.Omega.{arith}
use mathlib.Core.Path.{◌≡◌, ◌∙◌}
use lib.Dec.{eqb}
use Rattle.std.proofs.Common.{rules, tests}
use Rattle.record.specs.Records.{whole_record_at}
use Rattle.record.proofs.RecordLaws.{whole}
use Rattle.questions.proofs.QuestionLaws.{numbered_read}
use Rattle.questions.proofs.RangeLaws.{all_in_range}
use Rattle.questions.proofs.yards.all_numbered.Goals as goal

pub returns : goal.returns
returns c = let s = c.args.sheet.now in
    all_in_range _ _ _ c.all.ensures.ran (λ i b q k. let test : b ≡ eqb (whole_record_at s i).yard i = search (rules, tests) in
    (search rules, λ l. test ∙ numbered_read s i _ (whole s i (omega arith))))
