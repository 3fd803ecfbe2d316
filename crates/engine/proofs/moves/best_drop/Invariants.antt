-- `moves::best_drop` meets its contract. The invariant: b is what the drops passed have taken.
use mathlib.Core.Path.{◌≡◌}
use Rattle.model.specs.Passing.{through}
use Rattle.engine.specs.Moves.{at_place, try_drop}
use Rattle.engine.proofs.moves.best_drop.Given as goal

abbrev pub invariant-loop-listed : goal.invariant-loop-listed
invariant-loop-listed l = l.b ≡ through l.listed-index (at_place l.list (try_drop l.opening l.set l.cost l.kept)) l.initial.b
