-- `cost::openings_of` meets its contract. The invariant: the total is the sum of the opening costs passed, each within its bound.
use Prim.Native.Nat.{◌≤◌, ◌*◌}
use mathlib.Core.Path.{◌≡◌}
use lib.ListN.{get_or}
use Rattle.model.specs.Loops.{sum}
use Rattle.tables.specs.Bounds.{most_opening}
use Rattle.engine.proofs.cost.openings_of.Given as goal

abbrev pub invariant-loop-o : goal.invariant-loop-o
invariant-loop-o l = (l.total ≤ l.o-index * most_opening) × (l.total ≡ sum l.o-index (λ t. get_or l.opening (get_or l.list t 0) 0))
