-- `moves::best_add` meets its contract. The invariant: b is what the adds passed have taken.
use mathlib.Core.Path.{◌≡◌}
use Rattle.model.specs.Passing.{through}
use Rattle.engine.specs.Moves.{add_at_cost}
use Rattle.engine.proofs.moves.best_add.Given as goal

abbrev pub invariant-loop-i : goal.invariant-loop-i
invariant-loop-i l = (l.b ≡ through l.i (add_at_cost l.set l.costs) l.initial.b)
