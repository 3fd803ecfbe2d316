-- `opened_by` meets its contract. The invariant: the set has the yards that the records passed open.
use Rattle.plan_set.proofs.OpenedLaws.{Shows}
use Rattle.plan_set.proofs.opened_by.Given as goal

abbrev pub invariant-loop-i : goal.invariant-loop-i
invariant-loop-i l = Shows l.area l.i l.set
