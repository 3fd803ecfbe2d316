-- `offered::add_offer` meets its contract. The invariant: the farm's offer is added to the sums of the yards passed, and to no other.
use Prim.Native.Nat.{◌+◌, ◌*◌, ◌≤◌}
use lib.ListN.{length}
use Rattle.model.proofs.PlaceLaws.{ChangedTo}
use Rattle.floor.specs.Offered.{SumOf}
use Rattle.floor.proofs.offered.add_offer.Given as goal

abbrev pub invariant-loop-yard : goal.invariant-loop-yard
invariant-loop-yard l = let s = l.sheet in
    (8 * s.yards ≤ length l.hauls)
    × ChangedTo (SumOf s.bytes.now s.yards l.offers l.farm) (SumOf s.bytes.now s.yards l.offers (l.farm + 1)) s.yards l.yard l.excess
