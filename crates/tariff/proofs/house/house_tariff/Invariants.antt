-- `house::house_tariff` meets its contract. The invariant: the tariff is made of the bands passed.
use Rattle.tariff.specs.House.{house}
use Rattle.tariff.proofs.MakingLaws.{Made}
use Rattle.tariff.proofs.house.house_tariff.Given as goal

abbrev pub invariant-loop-i : goal.invariant-loop-i
invariant-loop-i l = Made house l.i l.tariff
