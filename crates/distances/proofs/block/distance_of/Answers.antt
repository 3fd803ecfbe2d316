-- `block::distance_of` meets its contract: a haul and any other record are the cases of `distance_of`.
use mathlib.Core.Path.{sym}
use Rattle.distances.proofs.ReachLaws.{distance_haul, distance_other}
use Rattle.distances.proofs.block.distance_of.Goals as goal

pub returns-then-held : goal.returns-then-held
returns-then-held c = sym (distance_haul _ c.if-held.true)

pub returns-else-held : goal.returns-else-held
returns-else-held c = sym (distance_other _ c.if-held.false)
