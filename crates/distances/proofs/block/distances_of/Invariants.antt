-- `block::distances_of` meets its contract. The invariant: the distances passed are taken, and none is past the reach.
use mathlib.Core.Path.{◌≡◌}
use mathlib.Core.Bool.{true}
use Prim.Native.Nat.{ℕ, ◌<◌}
use lib.ListN.{length, get_or}
use Rattle.model.specs.Loops.{all_below}
use Rattle.record.specs.Records.{record_at}
use Rattle.tariff.specs.Bounds.{block}
use Rattle.distances.specs.Blocks.{distance_of, within_reach}
use Rattle.distances.proofs.block.distances_of.Given as goal

abbrev pub invariant-loop-k : goal.invariant-loop-k
invariant-loop-k l = (length l.distances ≡ block) × (true ≡ all_below l.k (within_reach l.reach l.part)) × ((j : ℕ) → j < l.k → get_or l.distances j 0 ≡ distance_of (record_at l.part j))
