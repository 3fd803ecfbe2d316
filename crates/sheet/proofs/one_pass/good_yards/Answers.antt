use mathlib.Core.Path.{◌≡◌, sym, ◌∙◌}
use native.Mathlib.Omega.{arith}
use borrow.Author.Tests.{eq-eqb, ne_eqb}
use Rattle.model.proofs.Bools.{said_no, said_yes}
use Rattle.model.proofs.LoopLaws.{all_none, all_more, leading_none, leading_more, leading_stops}
use Rattle.record.specs.Records.{records}
use Rattle.questions.specs.Sheet.{yards}
use Rattle.questions.proofs.QuestionLaws.{yard_read}
use Rattle.sheet.proofs.one_pass.OnePassLaws.{yard_tested, yards_good, yards_many, yards_bad}
use Rattle.sheet.proofs.one_pass.good_yards.Goals as goal

pub loop-i-init : goal.loop-i-init
loop-i-init c = (omega arith, leading_none _, all_none _)

pub returns-then-i-ge-MOST_YARDS : goal.returns-then-i-ge-MOST_YARDS
returns-then-i-ge-MOST_YARDS c = let yard = sym (yard_read _ _ _ c.record_within-record.ensures) ∙ eq-eqb _ _ c.if-record.false in
    yards_many _ _ (leading_more _ c.loop-i.i c.loop-i.invariant.1 yard) (omega arith) (omega arith)

pub returns-then-not-record_is : goal.returns-then-not-record_is
returns-then-not-record_is c = let yard = sym (yard_read _ _ _ c.record_within-record.ensures) ∙ eq-eqb _ _ c.if-record.false in
    let bad = said_no (c.record_is.ensures ∙ yard_tested _ _ _ c.record_within-record.ensures) c.if-not-record_is.true in
    yards_bad _ _ (leading_more _ c.loop-i.i c.loop-i.invariant.1 yard) (omega arith) bad

pub loop-i-preserved : goal.loop-i-preserved
loop-i-preserved c = let yard = sym (yard_read _ _ _ c.record_within-record.ensures) ∙ eq-eqb _ _ c.if-record.false in
    let good = said_yes (c.record_is.ensures ∙ yard_tested _ _ _ c.record_within-record.ensures) c.if-not-record_is.false in
    (omega arith, leading_more _ _ c.loop-i.invariant.1 yard, all_more _ _ c.loop-i.invariant.2 good)

pub returns : goal.returns
unfolding yards
returns c = let e : c.loop-i.i ≡ records c.args.sheet.now = omega arith in
    rw (← e) (yards_good _ _ (rw (← e) c.loop-i.invariant.1) c.loop-i.invariant.0 c.loop-i.invariant.2)

pub returns-then-record : goal.returns-then-record
unfolding yards
returns-then-record c = let other = sym (yard_read _ _ _ c.record_within-record.ensures) ∙ ne_eqb _ _ c.if-record.true in
    yards_good _ _ (leading_stops _ _ c.loop-i.i c.loop-i.invariant.1 (omega arith) other) c.loop-i.invariant.0 c.loop-i.invariant.2
