-- `moves::best_swap` meets its contract. The invariant: b is what the rows passed have taken, and costs no more than the bound.
use Prim.Native.Nat.{◌≤◌}
use mathlib.Core.Path.{◌≡◌}
use Rattle.model.specs.Passing.{through}
use Rattle.engine.specs.Bounds.{most_cost}
use Rattle.engine.specs.Moves.{at_place, swap_out}
use Rattle.engine.proofs.moves.best_swap.Given as goal

abbrev pub invariant-loop-listed : goal.invariant-loop-listed
invariant-loop-listed l = (l.b.cost ≤ most_cost)
    × (l.b ≡ through l.listed-index (at_place l.list (swap_out l.opening l.m l.set l.costs l.kept)) l.initial.b)
