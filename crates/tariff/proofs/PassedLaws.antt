-- Laws of the ends that the distances of a block are past, as they are counted one after the other.
use Prim.Native.Nat.{ℕ, ◌+◌, ◌≤◌, ◌<◌, min}
use native.Mathlib.Numerals.{add-one}
use native.Mathlib.Omega.{arith}
use mathlib.Core.Path.{◌≡◌, ap₂}
use mathlib.Core.Bool.{Bool, true, false}
use mathlib.Core.List.{List}
use mir.Val.{bool_byte}
use lib.Dec.{ltb}
use lib.ListN.{get_or, replicate}
use Rattle.model.specs.Loops.{on, sum}
use Rattle.model.proofs.CountLaws.{count_le}
use Rattle.model.proofs.PlaceLaws.{same_most}
use Rattle.tariff.specs.declared.bands.Tariff.{Tariff}
use Rattle.tariff.specs.Bounds.{block, most_bands, last_band}
use Rattle.tariff.specs.Pricing.{band_passed}
use Rattle.tariff.specs.Passed.{passed_of, Counted}

-- a test as a number, as the code counts it
pub one_past : (test : Bool) (one : ℕ) → one ≡ bool_byte test → (one ≡ on test 1) × (one ≤ 1)
one_past true one e = (e, omega arith)
one_past false one e = (e, omega arith)

pub counted_none : (ends distances : List ℕ) → Counted ends distances 0 (replicate block 0)
unfolding passed_of sum
counted_none ends distances k l = omega (arith, same_most block 0 k)

pub counted_more : (ends : List ℕ) (i d x one : ℕ) → x ≡ passed_of ends i d → one ≡ on (ltb (get_or ends i 0) d) 1 → x + one ≡ passed_of ends (i + 1) d
unfolding passed_of sum
counted_more ends i d x one e f = rw add-one (ap₂ ◌+◌ e f)

pub counted_le : (ends : List ℕ) (i d : ℕ) → passed_of ends i d ≤ i
unfolding passed_of
counted_le ends i d = count_le i (λ j. ltb (get_or ends j 0) d)

pub band_below : (t : Tariff) (d : ℕ) → band_passed t d < most_bands
unfolding band_passed
band_below t d = omega (arith, count_le (min t.last last_band) (λ j. ltb (get_or t.ends j 0) d))

-- all that can be passed are counted: the number of the distance's band
pub counted_all : (t : Tariff) (d last : ℕ) → last ≡ min t.last last_band → passed_of t.ends last d ≡ band_passed t d
unfolding passed_of band_passed
counted_all t d last e = rw e
