-- `put_farms` meets its contract. The invariant: the records of the farms passed stand behind the offset, and their hauls are summed.
use Rattle.plan_area.proofs.plan.YardsAndFarmsLaws.{ServedSoFar}
use Rattle.plan_area.proofs.plan.put_farms.Given as goal

abbrev pub invariant-loop-farm : goal.invariant-loop-farm
invariant-loop-farm l = let s = l.open.sheet in ServedSoFar s.bytes.now s.yards s.farms l.open.set l.initial.area l.from l.area l.total l.farm
