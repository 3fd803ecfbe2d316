-- `passed::count_end` meets its contract. The invariant: for the distances passed the end is counted, for the others it is not yet.
use mathlib.Core.Path.{◌≡◌}
use Prim.Native.Nat.{◌+◌}
use lib.Dec.{ltb}
use lib.ListN.{length, get_or}
use Rattle.model.specs.Loops.{on}
use Rattle.model.proofs.PlaceLaws.{ChangedTo}
use Rattle.tariff.specs.Bounds.{block}
use Rattle.tariff.proofs.passed.count_end.Given as goal

abbrev pub invariant-loop-k : goal.invariant-loop-k
invariant-loop-k l = (length l.passed ≡ block) × ChangedTo (λ j x. x ≡ get_or l.initial.passed j 0) (λ j x. x ≡ get_or l.initial.passed j 0 + on (ltb l.«end» (get_or l.distances j 0)) 1) block l.k l.passed
