-- `put_opens` meets its contract. The invariant: the records of the yards passed stand at the front of the area, and their fees are summed.
use Rattle.plan_area.proofs.plan.YardsAndFarmsLaws.{Opened}
use Rattle.plan_area.proofs.plan.put_opens.Given as goal

abbrev pub invariant-loop-t : goal.invariant-loop-t
invariant-loop-t l = let s = l.open.sheet in Opened s.bytes.now s.yards s.farms l.open.set l.open.list.now l.initial.area l.area l.total l.t
