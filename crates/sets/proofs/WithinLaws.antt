-- Laws of sets of 32 bits: what is in one, what adding a number does, and that it fits.
use Prim.Native.Nat.{ℕ, ◌+◌, ◌^◌, ◌≤◌, ◌<◌}
use native.Mathlib.Omega.{arith}
use mathlib.Core.Path.{◌≡◌}
use mathlib.Core.Bool.{false}
use borrow.Author.Tests.{lt-ltb, le-ltb}
use Rattle.model.specs.Sets.{member, with}
use Rattle.model.proofs.Bools.{cases}
use Rattle.model.proofs.SetLaws.{member_below, with_below}
use Rattle.sets.specs.Within.{with32}

-- no set of 32 bits has a number from 32 on
pub none_above : (set i : ℕ) → set < 2 ^ 32 → 32 ≤ i → false ≡ member set i
none_above set i small above =
    cases (member set i) (λ e. absurd (omega (arith, member_below 32 set i small e))) (λ e. rw e)

pub with32_below : (set i : ℕ) → i < 32 → with32 set i ≡ with set i
unfolding with32
with32_below set i below = rw (lt-ltb i 32 below)

pub with32_above : (set i : ℕ) → 32 ≤ i → with32 set i ≡ set
unfolding with32
with32_above set i above = rw (le-ltb i 32 above)

-- a set has room for the bit of a number that it has not
pub room : (set i : ℕ) → set < 2 ^ 32 → i < 32 → member set i ≡ false → set + 2 ^ i < 2 ^ 32
unfolding with
room set i small below absent = rw (with, absent) at (with_below 32 set i small below)
