-- Laws of questions 11 and 12: the cases of reading a tariff, which part of a question decides it, and that accepted bands are proper.
use Prim.Native.Nat.{ℕ, suc, ◌+◌, ◌-◌, ◌%◌, ◌≤◌, ◌<◌}
use native.Mathlib.Numerals.{add-one}
use native.Mathlib.Omega.{arith}
use mathlib.Core.Path.{◌≡◌, refl, sym, ap, subst, ◌∙◌}
use mathlib.Core.Bool.{Bool, true, false, ◌&&◌, and-false}
use mathlib.Core.List.{List}
use borrow.Author.Tests.{eqb-true, leb-true, ltb-true, ne_eqb, eq-eqb, lt-leb, le-leb}
use lib.Dec.{eqb, leb, ltb}
use lib.ListN.{length, get_or}
use Rattle.std.specs.Prelude.{Ok, Err}
use Rattle.model.specs.Loops.{all_below}
use Rattle.model.specs.Answers.{Answer, accepted, refused}
use Rattle.model.specs.Instance.{Instance, metric}
use Rattle.model.specs.Charges.{charged, MonotoneSubadditive}
use Rattle.model.proofs.Bools.{and_left, and_right}
use Rattle.std.specs.Bool.{MatchBool}
use Rattle.std.specs.List.{range_with_len, AllWithin, HoldsAt}
use Rattle.std.proofs.lemmas.List.FromFn.{length-range_with_len, get_or-range_with_len}
use Rattle.model.proofs.LoopLaws.{all_at, all_from, all_stops}
use Rattle.model.proofs.AnswerLaws.{same_result, asked}
use Rattle.record.specs.Records.{records, record_at, amount_end}
use Rattle.record.specs.declared.Record.{Record}
use Rattle.record.proofs.RecordLaws.{Bytes, amount_small}
use Rattle.tariff.specs.declared.bands.Band.{Band}
use Rattle.tariff.specs.declared.bands.Tariff.{Tariff}
use Rattle.refusal.specs.declared.Refusal.{Refusal}
use Rattle.refusal.specs.Numbers.{number_of}
use Rattle.tariff.specs.Bounds.{band_kind, most_bands, most_tariff_bytes, half_word}
use Rattle.tariff.specs.Bands.{Bands, haul_by, end_of}
use Rattle.tariff.specs.Questions.{band_of, band_at, tariff_length, in_place, band_in_place, question11, no_rise, question12}
use Rattle.tariff.specs.Pricing.{price_of, PricesAs}
use Rattle.tariff.specs.Reading.{bands_of, tariff_reading, ReadAs}
use Rattle.tariff.proofs.BandLaws.{Proper, haul_charge, haul_metric}

-- what `all` answers over n numbers from a on
pub all_of_range : (p : ℕ → Bool) (a n : ℕ) (r : Bool)
    → MatchBool r (AllWithin (λ i. p (i - a) ≡ true) (range_with_len a n) 0 (length (range_with_len a n)))
    ((k : ℕ) × (k < length (range_with_len a n)) × HoldsAt (λ i. p (i - a) ≡ false) (range_with_len a n) k)
    → r ≡ all_below n p
all_of_range p a n true h =
    sym (all_from p n (λ i l.
    let at : get_or (range_with_len a n) i 0 - a ≡ i = omega (arith, get_or-range_with_len a n i 0 l) in
    subst (λ j. p j ≡ true) at (h i 0 (omega arith) (omega (arith, length-range_with_len a n)))))
all_of_range p a n false h =
    let l : h.0 < n = omega (arith, h.1, length-range_with_len a n) in
    let at : get_or (range_with_len a n) h.0 0 - a ≡ h.0 = omega (arith, get_or-range_with_len a n h.0 0 l) in
    sym (all_stops p n h.0 l (subst (λ j. p j ≡ false) at (h.2 0)))

module _ (t : List ℕ) where
  -- ---- the cases of reading

  pub refused_11 : question11 t ≡ false → tariff_reading t ≡ refused 11
  unfolding tariff_reading
  refused_11 h = rw h

  pub refused_12 : question11 t ≡ true → question12 t ≡ false → tariff_reading t ≡ refused 12
  unfolding tariff_reading
  refused_12 h k = rw (h, k)

  pub accepts_tariff : question11 t ≡ true → question12 t ≡ true → tariff_reading t ≡ accepted (bands_of t)
  unfolding tariff_reading
  accepts_tariff h k = rw (h, k)

  -- ---- question 11 by its parts

  pub odd_length : ¬ (length t % 8 ≡ 0) → question11 t ≡ false
  unfolding question11 tariff_length
  odd_length h = rw (ne_eqb (length t % 8) 0 h)

  pub no_record : length t < 8 → question11 t ≡ false
  unfolding question11 tariff_length
  no_record h = rw (lt-leb 8 (length t) h, and-false)

  pub many_records : most_tariff_bytes < length t → question11 t ≡ false
  unfolding question11 tariff_length
  many_records h = rw (lt-leb (length t) most_tariff_bytes h, and-false, and-false)

  pub out_of_place : all_below (records t) (band_in_place t) ≡ false → question11 t ≡ false
  unfolding question11
  out_of_place h = rw (h, and-false)

  pub all_in_place : length t % 8 ≡ 0 → 8 ≤ length t → length t ≤ most_tariff_bytes → true ≡ all_below (records t) (band_in_place t) → question11 t ≡ true
  unfolding question11 tariff_length
  all_in_place whole some few h = rw (eq-eqb (length t % 8) 0 whole, le-leb 8 (length t) some, le-leb (length t) most_tariff_bytes few, ← h)

  -- a record that was read, with its band, and where it is to start
  pub in_place_read : (i start : ℕ) (r : Record) (b : Band) → r ≡ record_at t i → b ≡ band_of r → start ≡ end_of (band_at t) i → in_place r b i start ≡ band_in_place t i
  unfolding band_in_place band_at
  in_place_read i start r b e f s = rw (f, e, s)

  pub band_read : (i : ℕ) (r : Record) (b : Band) → r ≡ record_at t i → b ≡ band_of r → b ≡ band_at t i
  unfolding band_at
  band_read i r b e f = f ∙ ap band_of e

  -- the next band is to start where this one ends
  pub next_start : (i : ℕ) (b : Band) → b ≡ band_at t i → b.end ≡ end_of (band_at t) (i + 1)
  next_start i b e = rw add-one (ap (λ (x : Band). x.end) e)

  -- ---- question 12 of two bands

  -- of band j, with the one before it
  pub rise_read : (j : ℕ) (before b : Band) → 1 ≤ j → before ≡ band_at t (j - 1) → b ≡ band_at t j → leb b.rate before.rate ≡ no_rise t (j - 1)
  unfolding no_rise
  rise_read j before b l e f = let next : suc (j - 1) ≡ j = omega arith in rw (e, f, next)

  -- ---- what the questions say

  module _ (yes11 : question11 t ≡ true) where
    lengths : (leb 8 (length t) && leb (length t) most_tariff_bytes) ≡ true
    unfolding question11 tariff_length
    lengths = and_right (eqb (length t % 8) 0) _ (and_left (tariff_length t) _ yes11)

    pub few_records : records t ≤ most_bands
    few_records = omega (arith, leb-true (length t) most_tariff_bytes (and_right (leb 8 (length t)) _ lengths))

    pub some_record : 1 ≤ records t
    some_record = omega (arith, leb-true 8 (length t) (and_left (leb 8 (length t)) _ lengths))

    in_place_at : (i : ℕ) → i < records t → (eqb (band_at t i).start (end_of (band_at t) i) && ltb (band_at t i).start (band_at t i).end) ≡ true
    unfolding question11 band_in_place in_place
    in_place_at i l =
        let here = all_at (band_in_place t) (records t) i (and_right (tariff_length t) _ yes11) l in
        and_right (eqb (record_at t i).yard i) _ (and_right (eqb (record_at t i).kind band_kind) _ here)

    -- a tariff's bands join, none is empty and no rate rises
    pub accepted_proper : question12 t ≡ true → Proper (records t) (band_at t)
    unfolding question12 no_rise
    accepted_proper yes12 =
        record {
          starts = λ i l. eqb-true (band_at t i).start (end_of (band_at t) i) (and_left _ _ (in_place_at i l));
          not_empty = λ i l. ltb-true (band_at t i).start (band_at t i).end (and_right (eqb (band_at t i).start (end_of (band_at t) i)) _ (in_place_at i l));
          no_rise_lem = λ i l. leb-true (band_at t (suc i)).rate (band_at t i).rate (all_at (no_rise t) (records t - 1) i yes12 (omega arith));
        }

  -- ---- ends and rates of two bytes

  pub end_small : (i : ℕ) → (band_at t i).end < half_word
  unfolding band_at band_of
  end_small i = omega arith

  pub rate_small : Bytes t → (i : ℕ) → (band_at t i).rate < half_word
  unfolding band_at band_of
  rate_small bytes i = omega (arith, amount_small t bytes i)

-- ---- what an accepted tariff promises

module _ (t : List ℕ) (b : Bands) (accepts : tariff_reading t ≡ accepted b) where
  pub record Passes : Type 0 where
    pub eleventh : question11 t ≡ true
    pub twelfth : question12 t ≡ true
    pub bands_are : bands_of t ≡ b

  pub passes : Passes
  unfolding tariff_reading
  passes =
      let q11 = asked (question11 t) 11 _ b accepts in
      let q12 = asked (question12 t) 12 _ b q11.1 in
      record { eleventh = q11.0; twelfth = q12.0; bands_are = same_result q12.1 }

  -- Hauls by an accepted tariff do not fall as the way gets longer, and are at most additive.
  pub accepted_charge : MonotoneSubadditive (haul_by b)
  unfolding bands_of
  accepted_charge = let p = passes in
      rw (← p.bands_are) (haul_charge (bands_of t) (some_record t p.eleventh) (accepted_proper t p.eleventh p.twelfth))

  -- "Distances that keep the four-point rule give hauls that keep it, under any accepted tariff."
  pub accepted_metric : (I : Instance) → metric I ≡ true → metric (charged (haul_by b) I) ≡ true
  unfolding bands_of
  accepted_metric I h = let p = passes in
      rw (← p.bands_are) (haul_metric (bands_of t) (some_record t p.eleventh) (accepted_proper t p.eleventh p.twelfth) I h)

-- ---- for callers that take the answer apart

pub read_accepted : (a : Answer Bands) (tariff : Tariff) → ReadAs a (Ok tariff) → (b : Bands) × (a ≡ accepted b) × PricesAs b tariff
read_accepted (accepted b) tariff e = (b, refl, e)
read_accepted (refused k) tariff e = absurd e

pub read_refused : (a : Answer Bands) (refusal : Refusal) → ReadAs a (Err refusal) → a ≡ refused (number_of refusal)
read_refused (accepted b) refusal e = absurd e
read_refused (refused k) refusal e = ap refused (sym e)

-- the hauls of a tariff fit the four bytes of an amount
pub prices_fit : (b : Bands) (t : Tariff) → PricesAs b t → (d : ℕ) → d ≤ t.reach → price_of t d < amount_end
prices_fit b t p d h = rw (p.prices d (omega (arith, p.reaches))) (p.fits d)
