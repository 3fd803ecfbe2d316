use Rattle.std.proofs.Common.{◌≡◌, arith}
use Rattle.model.proofs.PassingLaws.{through_none}
use Rattle.rows.specs.Shifts.{changed}
use Rattle.rows.proofs.ChangeLaws.{change_more}
use Rattle.rows.proofs.change.Goals as goal

pub loop-i-init : goal.loop-i-init
loop-i-init g c = λ f by. through_none _ _

pub loop-i-preserved : goal.loop-i-preserved
loop-i-preserved g c = λ f by.
    let l = c.loop-i in
    change_more (g.W.Way.changes f) c.args.at l.i _ c.args.sums.now l.sums (l.invariant f by)
    (c.change.ensures f l.i (by l.i c.loop-i-test.true))

pub returns : goal.returns
unfolding changed
returns g c = λ f by.
    let l = c.loop-i in
    let e : l.i ≡ 32 = omega arith in
    rw e at l.invariant f by
