-- The house tariff: its records pass questions 11 and 12, so that its bands are allowed; what it charges at some distances; and the rule of its
-- table of band starts, from which every haul is as it was.
use Prim.Native.Nat.{ℕ, ◌+◌, ◌<◌, ◌^◌}
use native.Mathlib.Omega.{arith}
use mathlib.Core.Path.{◌≡◌, refl, sym, ap, ap₂, ◌∙◌}
use mathlib.Core.Bool.{Bool, true, ◌&&◌}
use mathlib.Core.List.{List, [], ◌∷◌}
use borrow.Author.Tests.{eqb-true, ltb-true}
use lib.Dec.{eqb, ltb}
use lib.ListN.{get_or, take}
use Rattle.std.specs.List.{sum_by}
use Rattle.model.specs.Loops.{all_below, sum, join}
use Rattle.model.proofs.Bools.{and_left, and_right}
use Rattle.model.proofs.LoopLaws.{all_at, table_rule}
use Rattle.record.specs.Records.{record_at, bytes_of}
use Rattle.tariff.specs.declared.bands.Band.{Band}
use Rattle.tariff.specs.Bounds.{half_word}
use Rattle.tariff.specs.Bands.{band_by, inside, charge, haul_by, band_number, whole_charge, cost_before}
use Rattle.tariff.specs.Questions.{band_of, band_at, tariff_length, in_place, band_in_place, question11, no_rise, question12}
use Rattle.tariff.specs.House.{house, house_bands, house_starts, haul_from_start}
use Rattle.tariff.proofs.BandBytes.{band_bytes}
use Rattle.tariff.proofs.BandLaws.{Proper, proper_cong}
use Rattle.tariff.proofs.QuestionLaws.{accepted_proper}
use Rattle.tariff.proofs.StartLaws.{sum_front, is_band, haul_from_start_lem}
use Rattle.tariff.proofs.MakingLaws.{Allowed, cost_fits}

-- the house tariff as records
pub house_bytes : List ℕ
house_bytes = join house.count (λ i. let b = house.band i in band_bytes i b.start b.end b.rate)

-- They pass questions 11 and 12.
pub house_passes : (question11 house_bytes && question12 house_bytes) ≡ true
unfolding house_bytes band_bytes bytes_of join question11 question12 tariff_length band_in_place in_place no_rise band_at band_of record_at all_below
house_passes = refl

-- and are read as the house tariff's bands, whose ends and rates are numbers of two bytes
same_band : Band → Band → Bool
same_band a b = eqb a.start b.start && (eqb a.end b.end && eqb a.rate b.rate)

small : Band → Bool
small b = ltb b.end half_word && ltb b.rate half_word

house_read : all_below 6 (λ i. same_band (band_at house_bytes i) (house.band i) && small (house.band i)) ≡ true
unfolding house_bytes band_bytes bytes_of join same_band small band_at band_of record_at all_below
house_read = refl

same_band_lem : (a b : Band) → same_band a b ≡ true → a ≡ b
unfolding same_band
same_band_lem a b h =
    let rest = and_right (eqb a.start b.start) _ h in
    let s = eqb-true a.start b.start (and_left _ _ h) in
    let e = eqb-true a.end b.end (and_left _ _ rest) in
    let r = eqb-true a.rate b.rate (and_right (eqb a.end b.end) _ rest) in
    ap₂ (λ (x y : ℕ). band_by x y a.rate) s e ∙ ap (band_by b.start b.end) r

read_at : (i : ℕ) → i < 6 → (same_band (band_at house_bytes i) (house.band i) && small (house.band i)) ≡ true
read_at i l = all_at (λ i. same_band (band_at house_bytes i) (house.band i) && small (house.band i)) 6 i house_read l

band_is : (i : ℕ) → i < 6 → band_at house_bytes i ≡ house.band i
band_is i l = same_band_lem (band_at house_bytes i) (house.band i) (and_left _ _ (read_at i l))

bytes_proper : Proper 6 (band_at house_bytes)
unfolding house_bytes band_bytes bytes_of join
bytes_proper = accepted_proper house_bytes (and_left _ _ house_passes) (and_right (question11 house_bytes) _ house_passes)

pub house_allowed : Allowed house
unfolding small
house_allowed =
    record {
      proper = proper_cong 6 (band_at house_bytes) house.band band_is bytes_proper;
      some = omega arith;
      few = omega arith;
      ends_small = λ i l. ltb-true (house.band i).end half_word (and_left _ _ (small_at i l));
      rates_small = λ i l. ltb-true (house.band i).rate half_word (and_right (ltb (house.band i).end half_word) _ (small_at i l));
    }
  where
    small_at : (i : ℕ) → i < 6 → small (house.band i) ≡ true
    small_at i l = and_right (same_band (band_at house_bytes i) (house.band i)) _ (read_at i l)

-- "A distance of 120 costs 4,680", and some more: none, the ends of bands, and one behind an end
pub house_hauls : (all_below 6 (λ i. eqb (haul_by house (get_or (120 ∷ 0 ∷ 100 ∷ 250 ∷ 251 ∷ 4000 ∷ []) i 0)) (get_or (4680 ∷ 0 ∷ 4000 ∷ 9100 ∷ 9128 ∷ 75100 ∷ []) i 0))) ≡ true
unfolding all_below haul_by sum charge inside
house_hauls = refl

-- ---- the table of band starts

-- a test over the whole table, computed
starts_tested : all_below house.count (λ i. eqb (get_or house_starts i 0) (cost_before house.band i)) ≡ true
unfolding all_below cost_before sum whole_charge
starts_tested = refl

-- "Each entry equals the cost of all the bands before it."
pub start_is : (i : ℕ) → i < house.count → get_or house_starts i 0 ≡ cost_before house.band i
start_is = table_rule house_starts (cost_before house.band) house.count starts_tested

-- the same cost as a sum over the list of the bands before band i
pub charges_are : (i : ℕ) → i < house.count → sum_by (λ b. whole_charge b) (take i house_bands) ≡ cost_before house.band i
unfolding cost_before
charges_are i l = sum_front whole_charge house_bands (band_by 0 0 0) i (omega arith)

pub charges_fit : (i : ℕ) → i < house.count → sum_by (λ b. whole_charge b) (take i house_bands) < 2 ^ 32
charges_fit i l = omega (arith, charges_are i l, cost_fits house house_allowed i (omega arith))

-- "Every haul stays as it was": from the table it is what the bands charge, for every distance.
pub hauls_stay : (d : ℕ) → haul_from_start d ≡ haul_by house d
unfolding haul_from_start
hauls_stay d =
    ap (λ (x : ℕ). x + charge (house.band (band_number house d)) d) (start_is (band_number house d) (is_band house house_allowed.some house_allowed.proper d))
    ∙ sym (haul_from_start_lem house house_allowed.some house_allowed.proper d)
