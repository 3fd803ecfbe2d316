-- `descent::descend` meets its contract. The invariant: the search goes on from b as it would from the start, and the table is that of
-- b's set; b's cost falls.
use mathlib.Core.Path.{◌≡◌}
use lib.ListN.{length}
use Rattle.tables.specs.Tables.{table_cost}
use Rattle.engine.specs.Sums.{KeptOf}
use Rattle.engine.specs.Moves.{neighbours_by}
use Rattle.engine.proofs.DescentLaws.{Going}
use Rattle.engine.proofs.descent.descend.Given as goal

abbrev pub invariant-loop-neighbourhood : goal.invariant-loop-neighbourhood
invariant-loop-neighbourhood l = Going (table_cost l.tables.service.m l.tables.service.n l.tables.opening.now l.tables.service.costs.now) (neighbours_by l.neighbourhood l.tables.service.m) l.limit l.start l.b l.moves
    × KeptOf l.tables.service.m l.tables.service.n l.tables.service.costs.now l.b.set l.kept × (length l.kept ≡ length l.initial.kept)

abbrev pub decreases-loop-neighbourhood : goal.decreases-loop-neighbourhood
decreases-loop-neighbourhood l = l.b.cost
