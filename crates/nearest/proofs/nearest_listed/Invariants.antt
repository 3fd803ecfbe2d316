-- `nearest_listed` meets its contract. The invariant: `best` is the choice of the nearest of the yards passed.
use Rattle.sets.proofs.ListedLaws.{listed_up_to}
use Rattle.nearest.proofs.ChoiceLaws.{Kept}
use Rattle.nearest.proofs.nearest_listed.Given as goal

abbrev pub invariant-loop-yard : goal.invariant-loop-yard
invariant-loop-yard l = Kept l.fees l.hauls (listed_up_to l.yards l.yard-index) l.best
