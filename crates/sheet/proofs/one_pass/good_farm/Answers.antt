use mathlib.Core.Path.{◌≡◌, refl}
use native.Mathlib.Omega.{arith}
use Rattle.model.proofs.Bools.{said_no, said_yes}
use Rattle.model.proofs.LoopLaws.{all_none, all_more}
use Rattle.questions.proofs.QuestionLaws.{byte_read}
use Rattle.sheet.proofs.HaulLaws.{filled_more}
use Rattle.sheet.proofs.one_pass.OnePassLaws.{haul_tested, haul_read, haul_low, many_loads, bad_haul, good_hauls}
use Rattle.sheet.proofs.one_pass.good_farm.Goals as goal

pub returns-then-loads-gt-MOST_LOADS-clause-good : goal.returns-then-loads-gt-MOST_LOADS-clause-good
returns-then-loads-gt-MOST_LOADS-clause-good c = let s = c.args in
    let first = byte_read s.sheet.now s.m s.p _ c.record_within-loads.ensures in
    many_loads s.sheet.now s.m s.p (omega arith)

pub loop-a-init : goal.loop-a-init
loop-a-init c = (all_none _, c.requires.1)

pub returns-then-not-record_is-clause-good : goal.returns-then-not-record_is-clause-good
returns-then-not-record_is-clause-good c = let s = c.args in
    let first = byte_read s.sheet.now s.m s.p _ c.record_within-loads.ensures in
    let wrong = said_no (haul_tested s.sheet.now s.m s.p c.loop-a.a _ _ _ c.record_within-record.ensures first c.record_is.ensures) c.if-not-record_is.true in
    bad_haul s.sheet.now s.m s.p c.loop-a.a (omega arith) wrong

pub loop-a-preserved : goal.loop-a-preserved
loop-a-preserved c = let s = c.args in
    let first = byte_read s.sheet.now s.m s.p _ c.record_within-loads.ensures in
    let read = c.record_within-record.ensures in
    let test = c.record_is.ensures in (
      all_more _ _ c.loop-a.invariant.0 (said_yes (haul_tested s.sheet.now s.m s.p c.loop-a.a _ _ _ read first test) c.if-not-record_is.false),
      filled_more s.sheet.now s.m s.p c.loop-a.a _ _ c.loop-a.table refl (omega arith) (omega arith)
          (haul_read s.sheet.now s.m s.p c.loop-a.a _ _ _ read first test)
          (haul_low s.sheet.now s.m s.p c.loop-a.a _ _ _ read first test c.if-not-record_is.false) c.loop-a.invariant.1,
    )

pub returns-clause-good : goal.returns-clause-good
returns-clause-good c = let s = c.args in
    let e : c.loop-a.a ≡ s.m = omega arith in
    let first = byte_read s.sheet.now s.m s.p _ c.record_within-loads.ensures in
    good_hauls s.sheet.now s.m s.p (omega arith) (rw e at c.loop-a.invariant.0)
