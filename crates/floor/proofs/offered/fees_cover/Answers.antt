use mathlib.Core.Path.{◌≡◌, sym}
use native.Mathlib.Omega.{arith}
use Rattle.model.proofs.LoopLaws.{all_none, all_more, all_stops}
use Rattle.floor.proofs.OfferedLaws.{not_covered, is_covered}
use Rattle.floor.proofs.offered.fees_cover.Goals as goal

pub loop-yard-init : goal.loop-yard-init
loop-yard-init c = all_none _

pub returns-then-fee-excess : goal.returns-then-fee-excess
returns-then-fee-excess c = sym (all_stops _ _ c.loop-yard.yard (omega arith) (not_covered _ _ _ _ (c.fee.ensures.fee c.loop-yard-test.true) c.if-fee-excess.true))

pub loop-yard-preserved : goal.loop-yard-preserved
loop-yard-preserved c = all_more _ _ c.loop-yard.invariant (is_covered _ _ _ _ (c.fee.ensures.fee c.loop-yard-test.true) c.if-fee-excess.false)

pub returns : goal.returns
returns c = let l = c.loop-yard in
    let e : l.yard ≡ c.args.sheet.yards = omega arith in
    rw e at l.invariant
