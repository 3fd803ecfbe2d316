-- `offered::add_offers` meets its contract. The invariant: the yards' sums have the offers of the farms passed, and these are summed.
use Rattle.model.proofs.SumLaws.{Summed}
use Rattle.floor.specs.Offered.{farm_offer, Offered}
use Rattle.floor.proofs.offered.add_offers.Given as goal

abbrev pub invariant-loop-farm : goal.invariant-loop-farm
invariant-loop-farm l = let s = l.sheet in
    Offered s.bytes.now s.yards l.offers l.farm l.excess × Summed (farm_offer s.bytes.now s.yards l.offers) l.sum l.farm
