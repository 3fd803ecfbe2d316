use mathlib.Core.Path.{◌≡◌, ◌∙◌}
use native.Mathlib.Omega.{arith}
use Rattle.model.proofs.SumLaws.{summed_none, summed_more}
use Rattle.floor.proofs.OfferedLaws.{all_offers}
use Rattle.floor.proofs.offered.add_offers.Goals as goal

pub loop-farm-init : goal.loop-farm-init
loop-farm-init c = (c.requires.2, summed_none _)

pub add_offer-sum-requires : goal.add_offer-sum-requires
add_offer-sum-requires c = (c.requires.0, omega arith, c.loop-farm-test.true, c.loop-farm.invariant.0)

pub loop-farm-preserved : goal.loop-farm-preserved
loop-farm-preserved c = let added = c.add_offer-sum.ensures in
    (added.excess, summed_more _ _ _ _ c.loop-farm.invariant.1 added.sum added.small)

pub returns : goal.returns
returns c = let l = c.loop-farm in
    let e : l.farm ≡ c.args.sheet.farms = omega arith in
    let all = l.invariant.0 in
    record { sum = rw e at l.invariant.1.exact ∙ all_offers _ _ _ _; excess = rw e at all }
