-- `descent::cheapest` meets its contract. The invariant: b is the cheapest of the facilities passed, with its cost.
use Rattle.tables.specs.Tables.{table_cost}
use Rattle.engine.proofs.DescentLaws.{Cheapest}
use Rattle.engine.proofs.descent.cheapest.Given as goal

abbrev pub invariant-loop-i : goal.invariant-loop-i
invariant-loop-i l = Cheapest (table_cost l.tables.service.m l.tables.service.n l.tables.opening.now l.tables.service.costs.now) l.b l.i
