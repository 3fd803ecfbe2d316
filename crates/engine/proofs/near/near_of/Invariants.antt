-- `near::near_of` meets its contract. The invariant: the two are the nearest of the facilities that are passed in the list.
use mathlib.Core.Path.{◌≡◌}
use Rattle.sets.proofs.MemberLaws.{passed}
use Rattle.engine.specs.Near.{near_of}
use Rattle.engine.proofs.NearLaws.{near_below}
use Rattle.engine.proofs.near.near_of.Given as goal

abbrev pub invariant-loop-i : goal.invariant-loop-i
invariant-loop-i l = l.near ≡ near_of (near_below l.service.m l.service.costs.now l.set l.j (passed l.list l.i-index))
