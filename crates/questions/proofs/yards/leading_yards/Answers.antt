-- `yards::leading_yards` meets its contract: the first record that is no yard ends the run.
use native.Mathlib.Omega.{arith}
use mathlib.Core.Path.{◌≡◌, ◌∙◌}
use mathlib.Core.Bool.{not}
use lib.Dec.{eqb}
use Rattle.std.proofs.Common.{rules, tests}
use Rattle.record.specs.Records.{whole_record_at}
use Rattle.record.proofs.RecordLaws.{whole}
use Rattle.questions.specs.Bounds.{yard_kind}
use Rattle.questions.specs.Sheet.{yards}
use Rattle.questions.proofs.QuestionLaws.{yard_read}
use Rattle.questions.proofs.RangeLaws.{leading_in_range}
use Rattle.questions.proofs.yards.leading_yards.Goals as goal

pub returns : goal.returns
unfolding yards
returns c = let s = c.args.sheet.now in
    c.unwrap_or.ensures ∙ leading_in_range _ _ _ c.position.ensures.ran (λ i b q k. let test : not b ≡ eqb (whole_record_at s i).kind yard_kind = search (rules, tests) in
    (search rules, λ l. test ∙ yard_read s i _ (whole s i (omega arith))))
