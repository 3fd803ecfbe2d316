-- `pass::pass` meets its contract. The invariant: the cheapest route and the greatest difference over the clients passed.
use Rattle.std.proofs.Common.{map}
use Rattle.four_point.specs.Table.{row}
use Rattle.four_point.proofs.PassLaws.{Passed}
use Rattle.four_point.proofs.pass.pass.Given as goal

abbrev pub invariant-loop-p : goal.invariant-loop-p
invariant-loop-p g l = let cost = g.C.Cost in
    let costs = map cost.value l.table in
    Passed cost.limit (row costs l.a) (row costs l.b) l.p (cost.value l.route) (cost.value l.spread)
