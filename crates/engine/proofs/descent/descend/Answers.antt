use mathlib.Core.Path.{refl, ◌∙◌}
use native.Mathlib.Omega.{arith}
use Rattle.model.proofs.NeighbourLaws.{move_keeps}
use Rattle.tables.specs.Tables.{table_cost}
use Rattle.engine.specs.Moves.{neighbours_by}
use Rattle.engine.proofs.MovedLaws.{moved_is}
use Rattle.engine.proofs.DescentLaws.{going_starts, going_on, going_settles, going_stops, step_move}
use Rattle.engine.proofs.descent.descend.Goals as goal

pub begin-requires : goal.begin-requires
begin-requires c = c.requires

pub cost_now-requires : goal.cost_now-requires
cost_now-requires c = c.begin.ensures

pub loop-neighbourhood-init : goal.loop-neighbourhood-init
loop-neighbourhood-init c = let a = c.args in
    let cost = table_cost a.tables.service.m a.tables.service.n a.tables.opening.now a.tables.service.costs.now in
    (going_starts cost (neighbours_by a.neighbourhood a.tables.service.m) a.limit a.start _ c.cost_now.ensures, c.begin.ensures, refl)

pub choose-next-requires : goal.choose-next-requires
choose-next-requires c = let l = c.loop-neighbourhood in
    (l.invariant.1, l.invariant.0.right)

pub move_to-requires : goal.move_to-requires
move_to-requires c = let a = c.args in
    let l = c.loop-neighbourhood in
    let cost = table_cost a.tables.service.m a.tables.service.n a.tables.opening.now a.tables.service.costs.now in
    let to = c.choose-next in
    let step = step_move a.neighbourhood a.tables.service.m cost l.b to.result l.invariant.0.right to.ensures c.if-cost-lowest.false in
    let keeps = move_keeps a.tables.service.m l.b.set l.invariant.1.below to.result.set step in
    (l.invariant.1, moved_is a.tables.service.m l.b.set to.result.set l.invariant.1.sums.rows.few_facilities step, keeps.0, keeps.1)

pub overflow_add-moves : goal.overflow_add-moves
overflow_add-moves c = omega (arith, c.if-limit-moves.false, c.ranges.limit)

pub loop-neighbourhood-smaller : goal.loop-neighbourhood-smaller
loop-neighbourhood-smaller c = c.if-cost-lowest.false

pub loop-neighbourhood-preserved : goal.loop-neighbourhood-preserved
loop-neighbourhood-preserved c = let a = c.args in
    let cost = table_cost a.tables.service.m a.tables.service.n a.tables.opening.now a.tables.service.costs.now in
    let moves = neighbours_by a.neighbourhood a.tables.service.m in
    let l = c.loop-neighbourhood in (
      going_on cost moves a.limit a.start l.b _ _ l.invariant.0 c.choose-next.ensures c.if-cost-lowest.false c.if-limit-moves.false,
      c.move_to.ensures,
      c.move_to.auto.kept ∙ l.invariant.2,
    )

pub returns-then-cost-lowest : goal.returns-then-cost-lowest
returns-then-cost-lowest c = let a = c.args in
    let l = c.loop-neighbourhood in
    let cost = table_cost a.tables.service.m a.tables.service.n a.tables.opening.now a.tables.service.costs.now in
    let moves = neighbours_by a.neighbourhood a.tables.service.m in
    going_settles cost moves a.limit a.start l.b _ _ l.invariant.0 c.choose-next.ensures c.if-cost-lowest.true

pub returns-then-limit-moves : goal.returns-then-limit-moves
returns-then-limit-moves c = let a = c.args in
    let l = c.loop-neighbourhood in
    let cost = table_cost a.tables.service.m a.tables.service.n a.tables.opening.now a.tables.service.costs.now in
    let moves = neighbours_by a.neighbourhood a.tables.service.m in
    going_stops cost moves a.limit a.start l.b _ _ l.invariant.0 c.choose-next.ensures c.if-cost-lowest.false c.if-limit-moves.true
