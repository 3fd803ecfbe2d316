-- `yards::no_yard_after` meets its contract: the test of each record is the one that question 3 makes.
use Prim.Native.Nat.{◌+◌}
use native.Mathlib.Omega.{arith}
use mathlib.Core.Path.{◌≡◌, ap, ◌∙◌}
use mathlib.Core.Bool.{not}
use lib.Dec.{eqb}
use Rattle.std.proofs.Common.{rules, tests}
use Rattle.record.specs.Records.{whole_record_at}
use Rattle.record.proofs.RecordLaws.{whole}
use Rattle.questions.specs.Bounds.{yard_kind}
use Rattle.questions.specs.Questions.{no_yard_after}
use Rattle.questions.specs.Sheet.{hauls}
use Rattle.questions.proofs.QuestionLaws.{yard_read}
use Rattle.questions.proofs.FormLaws.{yards_le}
use Rattle.questions.proofs.RangeLaws.{all_in_range}
use Rattle.questions.proofs.yards.no_yard_after.Goals as goal

pub overflow_sub-after : goal.overflow_sub-after
overflow_sub-after c = omega (arith, yards_le c.args.sheet.now)

pub returns : goal.returns
unfolding no_yard_after hauls
returns c = let s = c.args.sheet.now in let m = c.args.m in
    rw (← c.requires)
    (all_in_range _ (no_yard_after s m) _ c.all.ensures.ran (λ i b q k. let test : b ≡ not (eqb (whole_record_at s (m + i)).kind yard_kind) = search (rules, tests) in
    (search rules, λ l. test ∙ ap not (yard_read s (m + i) _ (whole s (m + i) (omega arith))))))
