-- `units::round` meets its contract. The invariant: the units passed are rounded, and what the costs passed are
-- above their limit is small.
use mathlib.Core.Path.{◌≡◌}
use Prim.Native.Nat.{◌*◌, ◌≤◌}
use Rattle.four_point.specs.Rounded.{InUnits, above_limit}
use Rattle.four_point.proofs.units.round.Given as goal

abbrev pub invariant-loop-k : goal.invariant-loop-k
invariant-loop-k l =
    record {
      small : l.above ≤ 4095 * l.k;
      above : l.above ≡ above_limit l.table l.k;
      units : InUnits l.k l.table l.units;
    }
