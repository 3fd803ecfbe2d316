-- `offers_good` meets its contract. The invariant: the length is right, and every record passed is the offer of its farm.
use mathlib.Core.Path.{◌≡◌}
use mathlib.Core.Bool.{true}
use Prim.Native.Nat.{◌*◌}
use lib.ListN.{length}
use Rattle.model.specs.Loops.{all_below}
use Rattle.floor.specs.Offering.{offer_in_place}
use Rattle.floor.proofs.offers_good.Given as goal

abbrev pub invariant-loop-farm : goal.invariant-loop-farm
invariant-loop-farm l = (length l.offers ≡ 8 * l.n) × (true ≡ all_below l.farm (offer_in_place l.offers))
