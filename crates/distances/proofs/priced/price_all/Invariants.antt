-- `priced::price_all` meets its contract. The invariant: the records passed stand priced at the front, and no distance of theirs is past the reach.
use mathlib.Core.Path.{◌≡◌}
use mathlib.Core.Bool.{true}
use Prim.Native.Nat.{◌≤◌, ◌-◌, ◌/◌, ◌%◌}
use lib.ListN.{length}
use Rattle.model.specs.Loops.{all_below, join}
use Rattle.record.specs.Records.{splice}
use Rattle.tariff.specs.Pricing.{price_of}
use Rattle.distances.specs.Priced.{priced_at}
use Rattle.distances.specs.Blocks.{within_reach}
use Rattle.distances.proofs.priced.price_all.Given as goal

abbrev pub invariant-loop-from : goal.invariant-loop-from
invariant-loop-from l = (l.from ≤ length l.sheet) × (l.from % 8 ≡ 0) × (true ≡ all_below (l.from / 8) (within_reach l.by.reach l.sheet)) × (l.hauls ≡ splice l.initial.hauls 0 (join (l.from / 8) (priced_at (price_of l.by) l.sheet)))

abbrev pub decreases-loop-from : goal.decreases-loop-from
decreases-loop-from l = length l.sheet - l.from
