-- What the bounds are chosen for.
use Prim.Native.Nat.{◌^◌, ◌<◌}
use native.Mathlib.Omega.{arith}
use Rattle.tables.specs.Bounds.{most_entry}

-- differences of two service costs do not wrap
pub entry_small : most_entry < 2 ^ 31
entry_small = omega arith
