-- A tariff made of proper bands, one after the other, prices as they do: the line of a distance's band is the cost at its start and the rest at
-- its rate.
use Prim.Native.Nat.{ℕ, zero, suc, ◌+◌, ◌-◌, ◌*◌, ◌≤◌, ◌<◌, min}
use native.Mathlib.Nat.{le_refl, add-mul, not-suc-le-zero}
use native.Mathlib.Omega.{arith}
use mathlib.Core.Path.{◌≡◌, refl, sym, ap, ap₂, subst, ◌∙◌}
use mathlib.Core.Bool.{true}
use mathlib.Core.List.{List}
use lib.Dec.{ltb}
use lib.ListN.{length, get_or, length-set, length-replicate}
use Rattle.model.specs.Sets.{count}
use Rattle.model.proofs.PlaceLaws.{front_more}
use Rattle.model.proofs.CountLaws.{count_cong}
use Rattle.model.specs.Answers.{accepted}
use Rattle.record.specs.Records.{amount_end}
use Rattle.record.proofs.RecordLaws.{Bytes}
use Rattle.tariff.specs.declared.bands.Band.{Band}
use Rattle.tariff.specs.declared.bands.Tariff.{Tariff}
use Rattle.tariff.specs.Bounds.{most_bands, last_band, half_word}
use Rattle.tariff.specs.Bands.{Bands, haul_by, end_of, last_end, band_number, cost_before}
use Rattle.tariff.specs.Making.{without_bands, with_band}
use Rattle.tariff.specs.Pricing.{band_passed, line_of, price_of, PricesAs}
use Rattle.tariff.specs.Questions.{question11, question12}
use Rattle.tariff.specs.Reading.{bands_of, tariff_reading}
use Rattle.tariff.proofs.BandLaws.{Proper}
use Rattle.tariff.proofs.QuestionLaws.{accepted_proper, some_record, few_records, end_small, rate_small, passes}
use Rattle.tariff.proofs.StartLaws.{is_band, starts_before, haul_within, start_cost, cost_most, haul_most, product_fits}

-- bands that a tariff may have: 1 to 16 proper ones, of two-byte numbers
pub record Allowed (b : Bands) : Type 0 where
  pub proper : Proper b.count b.band
  pub some : 1 ≤ b.count
  pub few : b.count ≤ most_bands
  pub ends_small : (i : ℕ) → i < b.count → (b.band i).end < half_word
  pub rates_small : (i : ℕ) → i < b.count → (b.band i).rate < half_word

-- the cost at the start of band i, less what the way up to there costs at its rate
abbrev intercept_of : (ℕ → Band) → ℕ → ℕ
intercept_of band i = cost_before band i - (band i).start * (band i).rate

-- the tariff of the first i bands
pub record Made (b : Bands) (i : ℕ) (t : Tariff) : Type 0 where
  pub ends_room : length t.ends ≡ most_bands
  pub rates_room : length t.rates ≡ most_bands
  pub intercepts_room : length t.intercepts ≡ most_bands
  pub ends_made : (k : ℕ) → k < i → get_or t.ends k 0 ≡ (b.band k).end
  pub rates_made : (k : ℕ) → k < i → get_or t.rates k 0 ≡ (b.band k).rate
  pub intercepts_made : (k : ℕ) → k < i → get_or t.intercepts k 0 ≡ intercept_of b.band k
  pub last_is : t.last ≡ i - 1
  pub reaches : t.reach ≡ end_of b.band i

pub made_none : (b : Bands) (t : Tariff) → t ≡ without_bands → Made b 0 t
made_none b t e =
    rw e
    record {
      ends_room = length-replicate {A = ℕ} most_bands 0;
      rates_room = length-replicate {A = ℕ} most_bands 0;
      intercepts_room = length-replicate {A = ℕ} most_bands 0;
      ends_made = λ k l. absurd (not-suc-le-zero l);
      rates_made = λ k l. absurd (not-suc-le-zero l);
      intercepts_made = λ k l. absurd (not-suc-le-zero l);
      last_is = refl;
      reaches = refl;
    }

module _ (b : Bands) (a : Allowed b) where
  -- what the bands up to one cost fits the four bytes of an amount
  pub cost_fits : (i : ℕ) → i ≤ b.count → cost_before b.band i < amount_end
  cost_fits i l =
      let most = cost_most b.band b.count a.proper (half_word - 1) i l (λ j k. omega (arith, a.rates_small j k)) in
      omega (arith, most, product_fits (end_of b.band i) (half_word - 1) (end_small i l) (omega arith))
    where
      end_small : (i : ℕ) → i ≤ b.count → end_of b.band i < half_word
      end_small zero l = omega arith
      end_small (suc i) l = a.ends_small i l

  -- band i may be put behind those before it, with what they cost
  pub may_follow : (i : ℕ) (band : Band) (before : ℕ) → i < b.count → band ≡ b.band i → before ≡ cost_before b.band i
      → (i < most_bands) × (band.start * band.rate ≤ before)
  may_follow i band before l e costs = rw (e, costs) (omega (arith, a.few), start_cost b.band b.count a.proper i l)

  pub made_more : (i : ℕ) (t : Tariff) (band : Band) (before : ℕ) → i < b.count → band ≡ b.band i → before ≡ cost_before b.band i → Made b i t
      → Made b (i + 1) (with_band t i band before)
  made_more i t band before l e costs m =
      let room : i < most_bands = omega (arith, a.few) in
      rw e
      record {
        ends_room = simp length-set m.ends_room;
        rates_room = simp length-set m.rates_room;
        intercepts_room = simp length-set m.intercepts_room;
        ends_made = front_more (λ k. (b.band k).end) i _ t.ends (omega (arith, m.ends_room)) refl m.ends_made;
        rates_made = front_more (λ k. (b.band k).rate) i _ t.rates (omega (arith, m.rates_room)) refl m.rates_made;
        intercepts_made =
            front_more (intercept_of b.band) i _ t.intercepts (omega (arith, m.intercepts_room))
            (ap (λ (c : ℕ). c - (b.band i).start * (b.band i).rate) costs) m.intercepts_made;
        last_is = omega arith;
        reaches = ap (end_of b.band) (suc_is i);
      }
    where
      suc_is : (i : ℕ) → suc i ≡ i + 1
      suc_is i = omega arith

  -- ---- the band of a distance

  -- c the cost at the start, s the start, r the rate
  line : (c s r d : ℕ) → s * r ≤ c → s ≤ d → c - s * r + d * r ≡ c + (d - s) * r
  line c s r d low h =
      let e : d - s + s ≡ d = omega arith in
      let f : (d - s) * r + s * r ≡ d * r = sym (add-mul (d - s) s r) ∙ ap (λ (z : ℕ). z * r) e in
      omega arith

  module _ (t : Tariff) (m : Made b b.count t) (d : ℕ) where
    band_counted : band_passed t d ≡ band_number b d
    unfolding band_passed band_number
    band_counted =
        let e : min t.last last_band ≡ b.count - 1 = omega (arith, m.last_is, a.few) in
        ap (λ (n : ℕ). count n (λ i. ltb (get_or t.ends i 0) d)) e
        ∙ count_cong (b.count - 1) (λ i. ltb (get_or t.ends i 0) d) (λ i. ltb (b.band i).end d)
        (λ i l. ap (λ (end : ℕ). ltb end d) (m.ends_made i (omega arith)))

    line_price : d ≤ last_end b → price_of t d ≡ haul_by b d
    unfolding price_of
    line_price within =
        let k = band_number b d in
        let below = is_band b a.some a.proper d in
        ap (λ (i : ℕ). line_of t.rates t.intercepts i d) band_counted
        ∙ ap₂ (λ (x y : ℕ). x + d * y) (m.intercepts_made k below) (m.rates_made k below)
        ∙ line (cost_before b.band k) (b.band k).start (b.band k).rate d (start_cost b.band b.count a.proper k below) (starts_before b a.some a.proper d)
        ∙ sym (haul_within b a.some a.proper d within)

  -- a band's line begins with the cost at its start
  pub line_begins : (t : Tariff) → Made b b.count t → (i : ℕ) → i < b.count
      → line_of t.rates t.intercepts i (b.band i).start ≡ cost_before b.band i
  line_begins t m i l =
      ap₂ (λ (x y : ℕ). x + (b.band i).start * y) (m.intercepts_made i l) (m.rates_made i l)
      ∙ omega (arith, start_cost b.band b.count a.proper i l)

  pub hauls_fit : (d : ℕ) → haul_by b d < amount_end
  hauls_fit d = omega (arith, haul_most b d, cost_fits b.count (le_refl b.count))

  -- The tariff of all bands prices as they do.
  pub made_prices : (t : Tariff) → Made b b.count t → PricesAs b t
  unfolding last_end
  made_prices t m =
      record {
        reaches = m.reaches;
        prices = line_price t m;
        fits = hauls_fit;
      }

-- The bands of an accepted tariff are allowed.
pub accepted_allowed : (t : List ℕ) → Bytes t → question11 t ≡ true → question12 t ≡ true → Allowed (bands_of t)
unfolding bands_of
accepted_allowed t bytes yes11 yes12 =
    record {
      proper = accepted_proper t yes11 yes12;
      some = some_record t yes11;
      few = few_records t yes11;
      ends_small = λ i l. end_small t i;
      rates_small = λ i l. rate_small t bytes i;
    }

pub read_allowed : (t : List ℕ) → Bytes t → (b : Bands) → tariff_reading t ≡ accepted b → Allowed b
read_allowed t bytes b accepts =
    let p = passes t b accepts in subst Allowed p.bands_are (accepted_allowed t bytes p.eleventh p.twelfth)
