use Rattle.std.proofs.Common.{◌≡◌, ◌∙◌, refl, arith, length-set, not-suc-le-zero}
use Rattle.rows.specs.Shifts.{above_at, between_at}
use Rattle.rows.proofs.ChangeLaws.{front_more}
use Rattle.rows.proofs.WrapLaws.{above_taken, between_taken}
use Rattle.rows.proofs.differences.Goals as goal

pub loop-i-init : goal.loop-i-init
loop-i-init c = (refl, refl, (λ i l. absurd (not-suc-le-zero l)), (λ i l. absurd (not-suc-le-zero l)))

pub loop-i-preserved : goal.loop-i-preserved
loop-i-preserved c =
    let a = c.args in
    let l = c.loop-i in (
      length-set l.whole l.i _ ∙ l.invariant.0,
      length-set l.part l.i _ ∙ l.invariant.1,
      front_more (above_at a.costs.now a.low) l.i _ l.whole (omega arith) (above_taken a.costs.now a.low l.i _ c.over-over_low.ensures) l.invariant.2,
      front_more (between_at a.costs.now a.low a.high) l.i _ l.part (omega arith)
          (between_taken a.costs.now a.low a.high l.i _ _ c.over.type_inv c.over-over_low.ensures c.over.ensures) l.invariant.3,
    )

pub returns : goal.returns
returns c = let l = c.loop-i in
    let e : l.i ≡ 32 = omega arith in
    record { whole = rw e at l.invariant.2; part = rw e at l.invariant.3 }
