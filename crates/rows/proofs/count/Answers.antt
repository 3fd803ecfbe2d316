-- `count` meets its contract: the one stretch, and the other one behind it.
use Rattle.std.proofs.Common.{◌∙◌, ap, arith}
use Rattle.rows.specs.Shifts.{between_at, changed}
use Rattle.rows.proofs.count.Goals as goal

pub change-requires : goal.change-requires
change-requires g c = omega arith

pub change-requires-2 : goal.change-requires-2
change-requires-2 g c = omega (arith, c.change.auto.sums)

pub returns : goal.returns
returns g c =
    let a = c.args in
    let by = c.differences.ensures in
    c.change-2.ensures _ by.part ∙ ap (changed (g.B.Way.changes (between_at a.costs.now a.first a.second)) a.more) (c.change.ensures _ by.whole)
