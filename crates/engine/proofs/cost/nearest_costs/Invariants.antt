-- `cost::nearest_costs` meets its contract. The invariant: the total is the sum of the costs passed, each within its bound.
use Prim.Native.Nat.{◌≤◌, ◌*◌, ◌/◌}
use mathlib.Core.Path.{◌≡◌}
use lib.ListN.{get_or}
use Rattle.model.specs.Loops.{sum}
use Rattle.tables.specs.Bounds.{most_entry}
use Rattle.engine.proofs.cost.nearest_costs.Given as goal

abbrev pub invariant-loop-first : goal.invariant-loop-first
invariant-loop-first l = (l.total ≤ l.first-index * most_entry) × (l.total ≡ sum l.first-index (λ j. get_or l.firsts j 0 / 32))
