-- `hauls_moved` meets its contract. The invariant: both sums over the farms so far.
use Rattle.shut.proofs.MovedLaws.{Moved}
use Rattle.shut.proofs.hauls_moved.hauls_moved.Given as goal

abbrev pub invariant-loop-farm : goal.invariant-loop-farm
invariant-loop-farm l = Moved l.sheet.bytes.now l.sheet.yards l.sheet.farms l.set l.yard l.there l.elsewhere l.farm
