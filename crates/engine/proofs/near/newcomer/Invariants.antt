-- `near::newcomer` meets its contract. The invariant: none of the numbers passed is new.
use mathlib.Core.Path.{◌≡◌}
use Rattle.model.specs.Loops.{leading}
use Rattle.engine.proofs.MovedLaws.{old}
use Rattle.engine.proofs.near.newcomer.Given as goal

abbrev pub invariant-loop-i : goal.invariant-loop-i
invariant-loop-i l = (leading l.i (old l.before l.after) ≡ l.i)
