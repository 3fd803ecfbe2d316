-- `moves::best_swap_out` meets its contract. The invariant: b is what the swaps of o passed have taken.
use mathlib.Core.Path.{◌≡◌}
use Rattle.model.specs.Passing.{through}
use Rattle.engine.specs.Moves.{swap_at_cost}
use Rattle.engine.proofs.moves.best_swap_out.Given as goal

abbrev pub invariant-loop-i : goal.invariant-loop-i
invariant-loop-i l = (l.b ≡ through l.i (swap_at_cost l.set l.costs l.kept l.o l.saved) l.initial.b)
