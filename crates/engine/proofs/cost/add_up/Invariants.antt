-- `cost::add_up` meets its contract. The invariant: the table keeps its length, and the places passed hold their sums.
use mathlib.Core.Path.{◌≡◌}
use lib.ListN.{length}
use Rattle.engine.specs.Rows.{Added}
use Rattle.engine.proofs.cost.add_up.Given as goal

abbrev pub invariant-loop-i : goal.invariant-loop-i
invariant-loop-i l = (length l.costs ≡ length l.initial.costs) × Added l.i l.opened l.opening l.kept l.costs
