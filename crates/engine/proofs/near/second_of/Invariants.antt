-- `near::second_of` meets its contract. The invariant: the least is the nearest of the facilities that are passed in the list, other
-- than the first.
use mathlib.Core.Path.{◌≡◌}
use Rattle.sets.proofs.MemberLaws.{passed}
use Rattle.engine.proofs.NearLaws.{least_below}
use Rattle.engine.proofs.near.second_of.Given as goal

abbrev pub invariant-loop-i : goal.invariant-loop-i
invariant-loop-i l = l.least ≡ least_below l.service.m l.service.costs.now l.set l.j l.first (passed l.list l.i-index)
