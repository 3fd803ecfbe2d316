use Rattle.std.proofs.Common.{◌*◌, ◌<◌, map, arith, ℕ, List}
use Rattle.four_point.specs.Table.{row}
use Rattle.four_point.proofs.PassLaws.{Entries, entries, passed_none, passed_more, passed_low}
use Rattle.four_point.proofs.pass.pass.Given.{Over}
use Rattle.four_point.proofs.pass.pass.Goals as goal
use Rattle.four_point.proofs.pass.pass.Goals.{After-index-table-b}

abbrev costs : (g : Over) → List g.row.C.Denot → ℕ → ℕ → ℕ
costs g table a = row (map g.C.Cost.value table) a

-- the two costs of a turn
turn : (g : Over) (c : After-index-table-b g)
    → Entries g.C.Cost.limit (costs g c.args.table.now c.args.a) (costs g c.args.table.now c.args.b) c.loop-p.p (g.C.Cost.value c.index-table-a.result) (g.C.Cost.value c.index-table-b.result)
turn g c = let r = c.requires in
    entries g.C.Cost.limit g.C.Cost.value c.args.table.now c.args.n c.args.a c.args.b c.loop-p.p c.index-table-a.result c.index-table-b.result
    r.a_room r.b_room r.a_low r.b_low c.loop-p-test.true c.index-table-a.is c.index-table-b.is

-- what was found so far, below twice the limit
before : (g : Over) (c : After-index-table-b g) → (g.C.Cost.value c.loop-p.route < 2 * g.C.Cost.limit) × (g.C.Cost.value c.loop-p.spread < 2 * g.C.Cost.limit)
before g c = let a = c.args in
    let l = c.loop-p in
    passed_low g.C.Cost.limit (costs g a.table.now a.a) (costs g a.table.now a.b) a.n l.p (g.C.Cost.value l.route) (g.C.Cost.value l.spread)
    g.met.C.Cost.some (omega arith) c.requires.a_low c.requires.b_low l.invariant

pub loop-p-init : goal.loop-p-init
loop-p-init g c = let a = c.args in
    passed_none g.C.Cost.limit (costs g a.table.now a.a) (costs g a.table.now a.b) (g.C.Cost.value c.most_route-route.result) (g.C.Cost.value c.none-spread.result)
    c.most_route-route.ensures c.none-spread.ensures

pub plus-way-requires : goal.plus-way-requires
plus-way-requires g c = let e = turn g (goal.at.plus-way-requires g c).After-index-table-b in (e.first_low, e.second_low)

pub lesser-route-requires : goal.lesser-route-requires
lesser-route-requires g c = let at = (goal.at.lesser-route-requires g c).After-index-table-b in
    let e = turn g at in
    (omega (arith, c.plus-way.ensures, e.first_low, e.second_low), omega (arith, c.plus-way.ensures, e.first_low, e.second_low, (before g at).0))

pub greater-requires : goal.greater-requires
greater-requires g c = let e = turn g (goal.at.greater-requires g c).After-index-table-b in
    (omega (arith, e.first_low), omega (arith, e.second_low))

pub lesser-requires : goal.lesser-requires
lesser-requires g c = let e = turn g (goal.at.lesser-requires g c).After-index-table-b in
    (omega (arith, e.first_low), omega (arith, e.second_low))

pub greater-spread-requires : goal.greater-spread-requires
greater-spread-requires g c = let at = (goal.at.greater-spread-requires g c).After-index-table-b in
    let e = turn g at in
    (omega (arith, c.minus.ensures, c.greater.ensures, c.lesser.ensures, e.first_low, e.second_low), (before g at).1)

pub loop-p-preserved : goal.loop-p-preserved
loop-p-preserved g c = let a = c.args in
    let l = c.loop-p in
    passed_more g.C.Cost.limit (costs g a.table.now a.a) (costs g a.table.now a.b) l.p (g.C.Cost.value l.route) (g.C.Cost.value l.spread)
    (g.C.Cost.value c.index-table-a.result) (g.C.Cost.value c.index-table-b.result) (g.C.Cost.value c.plus-way.result) (g.C.Cost.value c.greater.result)
    (g.C.Cost.value c.lesser.result) (g.C.Cost.value c.minus.result) (g.C.Cost.value c.lesser-route.result) (g.C.Cost.value c.greater-spread.result)
    l.invariant (turn g (goal.at.loop-p-preserved g c).After-index-table-b)
    c.plus-way.ensures c.lesser-route.ensures c.greater.ensures c.lesser.ensures c.minus.ensures c.greater-spread.ensures
