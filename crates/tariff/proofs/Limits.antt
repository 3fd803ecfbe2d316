-- Paper 3's numbers in questions 11 and 12, computed from the definitions: the last that each accepts, and the next, which it refuses.
use Prim.Native.Nat.{ℕ, ◌+◌, ◌*◌}
use mathlib.Core.Path.{◌≡◌, refl}
use mathlib.Core.Bool.{true, false}
use mathlib.Core.List.{List, ◌++◌}
use Rattle.model.specs.Loops.{all_below, join}
use Rattle.record.specs.Records.{record_at, bytes_of}
use Rattle.tariff.specs.Questions.{band_of, band_at, tariff_length, in_place, band_in_place, question11, no_rise, question12}
use Rattle.tariff.proofs.BandBytes.{band_bytes}

-- n bands of equal length and equal rates
unfoldable pub equal_bands : ℕ → List ℕ
equal_bands n = join n (λ i. band_bytes i (10 * i) (10 * i + 10) 5)

-- 1 to 16 records
pub most_bands_lem : (question11 (equal_bands 16) ≡ true) × (question11 (equal_bands 17) ≡ false)
unfolding equal_bands band_bytes join bytes_of record_at question11 tariff_length band_in_place in_place band_at band_of all_below
most_bands_lem = (refl, refl)

pub fewest_bands : (question11 (equal_bands 1) ≡ true) × (question11 (equal_bands 0) ≡ false)
unfolding equal_bands band_bytes join bytes_of record_at question11 tariff_length band_in_place in_place band_at band_of all_below
fewest_bands = (refl, refl)

-- an end at the start, and above it up to what two bytes hold
pub shortest_band : (question11 (band_bytes 0 0 1 5) ≡ true) × (question11 (band_bytes 0 0 0 5) ≡ false)
unfolding band_bytes bytes_of record_at question11 tariff_length band_in_place in_place band_at band_of all_below
shortest_band = (refl, refl)

pub longest_band : question11 (band_bytes 0 0 65535 65535) ≡ true
unfolding band_bytes bytes_of record_at question11 tariff_length band_in_place in_place band_at band_of all_below
longest_band = refl

-- the rate of the band before, and one above it
pub highest_rate : (question12 (band_bytes 0 0 10 300 ++ band_bytes 1 10 20 300) ≡ true) × (question12 (band_bytes 0 0 10 300 ++ band_bytes 1 10 20 301) ≡ false)
unfolding band_bytes bytes_of record_at question12 no_rise band_at band_of all_below
highest_rate = (refl, refl)
