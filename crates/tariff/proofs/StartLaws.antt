-- The haul of a distance from the cost at its band's start: the bands before are paid whole, those after it not at all. Which band that is, and
-- what the bands cost at most.
use Prim.Native.Nat.{ℕ, zero, suc, ◌+◌, ◌-◌, ◌*◌, ◌≤◌, ◌<◌, min, zero-le}
use native.Mathlib.Nat.{le-suc, le_trans, le_refl, eq-or-lt_of_le, le_of_suc-le-suc, not-suc-le-zero, mul-le-mul, mul-le-mul_left, mul-le-mul_right, add-mul}
use native.Mathlib.Numerals.{add-one}
use native.Mathlib.Omega.{arith}
use native.Mathlib.Decide.{dec_lt}
use mathlib.Core.Path.{◌≡◌, refl, sym, ap, ap₂, subst, ◌∙◌}
use mathlib.Core.Bool.{Bool, true}
use mathlib.Core.Logic.{◌⊎◌, inl, inr}
use borrow.Author.Tests.{ltb-true, ltb-false, lt-ltb, le-ltb}
use mathlib.Core.List.{List}
use lib.Dec.{ltb}
use lib.ListN.{length, get_or, take}
use Rattle.std.specs.List.{sum_by}
use Rattle.std.proofs.lemmas.List.Sums.{sum_by_more}
use Rattle.model.specs.Loops.{sum}
use Rattle.model.proofs.CountLaws.{count_le, count_downward}
use Rattle.model.proofs.LoopLaws.{last_or}
use Rattle.model.proofs.SumLaws.{sum_mono}
use Rattle.record.specs.Records.{amount_end}
use Rattle.tariff.specs.declared.bands.Band.{Band}
use Rattle.tariff.specs.Bounds.{half_word}
use Rattle.tariff.specs.Bands.{Bands, inside, charge, haul_by, end_of, last_end, band_number, whole_charge, cost_before}
use Rattle.tariff.proofs.BandLaws.{Proper}

-- ---- one band

-- a distance within the band or at its end
pub charge_within : (b : Band) (d : ℕ) → b.start ≤ d → d ≤ b.end → charge b d ≡ (d - b.start) * b.rate
unfolding charge inside
charge_within b d h k = let e : min d b.end - min d b.start ≡ d - b.start = omega arith in ap (λ (x : ℕ). x * b.rate) e

-- one that does not reach it
charge_before : (b : Band) (d : ℕ) → d ≤ b.start → charge b d ≡ 0
unfolding charge inside
charge_before b d h = let e : min d b.end - min d b.start ≡ 0 = omega arith in rw e (omega arith)

-- one past it
charge_past : (b : Band) (d : ℕ) → b.start ≤ b.end → b.end ≤ d → charge b d ≡ whole_charge b
unfolding charge inside whole_charge
charge_past b d up h =
    let e : min d b.end - min d b.start ≡ b.end - b.start = omega arith in
    ap (λ (x : ℕ). x * b.rate) e

charge_most : (b : Band) (d : ℕ) → charge b d ≤ whole_charge b
unfolding charge inside whole_charge
charge_most b d = mul-le-mul_right b.rate (omega arith)

-- ---- the cost of the bands before one, as they are passed

pub cost_none : (band : ℕ → Band) → 0 ≡ cost_before band 0
unfolding cost_before sum
cost_none band = refl

pub cost_more : (band : ℕ → Band) (i cost more : ℕ) → cost ≡ cost_before band i → more ≡ whole_charge (band i) → cost + more ≡ cost_before band (i + 1)
unfolding cost_before sum
cost_more band i cost more e f = rw add-one (ap₂ ◌+◌ e f)

-- bands in a list: what the first i of them come to, added up over the list
pub sum_front : (f : Band → ℕ) (bands : List Band) (none : Band) (i : ℕ) → i ≤ length bands → sum_by f (take i bands) ≡ sum i (λ j. f (get_or bands j none))
unfolding sum
sum_front f bands none zero l = refl
sum_front f bands none (suc i) l =
    rw (← add-one) (sum_by_more f bands i none (omega arith) ∙ ap (λ (x : ℕ). x + f (get_or bands i none)) (sum_front f bands none i (omega arith)))

-- ---- bands that join

module _ (band : ℕ → Band) (n : ℕ) (p : Proper n band) where
  pub ends_rise : (i j : ℕ) → i ≤ j → j < n → (band i).end ≤ (band j).end
  ends_rise i zero h l = let e : i ≡ 0 = omega arith in rw e (le_refl (band 0).end)
  ends_rise i (suc j) h l = go (last_or_less i j h) (λ k. ends_rise i j k (le_trans (le-suc (suc j)) l))
    where
      last_or_less : (i j : ℕ) → i ≤ suc j → (i ≡ suc j) ⊎ (i ≤ j)
      last_or_less i j h = elim (eq-or-lt_of_le h) [ inl e ↦ inl e | inr k ↦ inr (le_of_suc-le-suc k) ]

      go : (i ≡ suc j) ⊎ (i ≤ j) → (i ≤ j → (band i).end ≤ (band j).end) → (band i).end ≤ (band (suc j)).end
      go (inl e) before = rw e (le_refl (band (suc j)).end)
      go (inr k) before = omega (arith, before k, p.starts (suc j) l, p.not_empty (suc j) l)

  module _ (d : ℕ) where
    -- bands that end before the distance does
    paid_whole : (i : ℕ) → i ≤ n → end_of band i ≤ d → sum i (λ j. charge (band j) d) ≡ cost_before band i
    unfolding sum cost_before
    paid_whole zero l h = refl
    paid_whole (suc i) l h =
        ap₂ ◌+◌ (paid_whole i (le_trans (le-suc i) l) (omega (arith, p.starts i l, p.not_empty i l)))
        (charge_past (band i) d (omega (arith, p.not_empty i l)) h)

    -- bands that start where the distance ends or later
    record Ends (i k : ℕ) : Type 0 where
      reached : d ≤ end_of band k
      paid : sum k (λ j. charge (band j) d) ≡ sum (suc i) (λ j. charge (band j) d)

    unpaid : (i k : ℕ) → i < k → k ≤ n → d ≤ (band i).end → Ends i k
    unfolding sum
    unpaid i zero l m h = absurd (not-suc-le-zero l)
    unpaid i (suc k) l m h = go (last_or l) (λ b. unpaid i k b (le_trans (le-suc k) m) h)
      where
        go : (i ≡ k) ⊎ (i < k) → (i < k → Ends i k) → Ends i (suc k)
        go (inl e) before =
            record {
              reached = subst (λ (x : ℕ). d ≤ (band x).end) e h;
              paid = ap (λ (x : ℕ). sum (suc x) (λ j. charge (band j) d)) (sym e);
            }
        go (inr b) before =
            let r = before b in
            let s = p.starts k m in
            record {
              reached = omega (arith, r.reached, p.not_empty k m);
              paid = ap (λ (x : ℕ). sum k (λ j. charge (band j) d) + x) (charge_before (band k) d (omega (arith, r.reached)))
                  ∙ omega (arith, r.paid);
            }

    -- the distance ends in band i or, where that is the last one, behind it
    pub from_start : (i : ℕ) → i < n → (band i).start ≤ d → (d ≤ (band i).end) ⊎ (suc i ≡ n)
        → sum n (λ j. charge (band j) d) ≡ cost_before band i + charge (band i) d
    unfolding sum
    from_start i l h ends =
        all_paid ends ∙ ap (λ (x : ℕ). x + charge (band i) d) (paid_whole i (le_trans (le-suc i) l) (omega (arith, p.starts i l)))
      where
        all_paid : (d ≤ (band i).end) ⊎ (suc i ≡ n) → sum n (λ j. charge (band j) d) ≡ sum (suc i) (λ j. charge (band j) d)
        all_paid (inl e) = (unpaid i n l (le_refl n) e).paid
        all_paid (inr e) = ap (λ (k : ℕ). sum k (λ j. charge (band j) d)) (sym e)

  -- ---- what bands cost

  -- x and y are this end and the next, r the rate of the band between them and k that of another
  dearer_step : (c x y r : ℕ) → x ≤ y → x * r ≤ c → y * r ≤ c + (y - x) * r
  dearer_step c x y r h low =
      let e : y - x + x ≡ y = omega arith in
      let f : (y - x) * r + x * r ≡ y * r = sym (add-mul (y - x) x r) ∙ ap (λ (z : ℕ). z * r) e in
      omega arith

  -- the bands before band i cost no less than they would at its rate
  pub start_cost : (i : ℕ) → i < n → (band i).start * (band i).rate ≤ cost_before band i
  unfolding cost_before sum whole_charge
  start_cost zero l = rw (p.starts 0 l) (omega arith)
  start_cost (suc i) l =
      let below : i < n = le_trans (le-suc (suc i)) l in
      let ih = start_cost i below in
      let whole = dearer_step (cost_before band i) (band i).start (band i).end (band i).rate (omega (arith, p.not_empty i below)) ih in
      rw (p.starts (suc i) l) (omega (arith, whole, mul-le-mul_left (band i).end (p.no_rise_lem i l)))

  -- and no more than at the highest
  cheaper_step : (c x y r k : ℕ) → x ≤ y → r ≤ k → c ≤ x * k → c + (y - x) * r ≤ y * k
  cheaper_step c x y r k h j l =
      let e : y - x + x ≡ y = omega arith in
      let f : (y - x) * k + x * k ≡ y * k = sym (add-mul (y - x) x k) ∙ ap (λ (z : ℕ). z * k) e in
      omega (arith, mul-le-mul_left (y - x) j)

  pub cost_most : (rate i : ℕ) → i ≤ n → ((j : ℕ) → j < n → (band j).rate ≤ rate) → cost_before band i ≤ end_of band i * rate
  unfolding cost_before sum whole_charge
  cost_most rate zero l h = zero-le
  cost_most rate (suc i) l h =
      let s = p.starts i l in
      rw s (cheaper_step (cost_before band i) (end_of band i) (band i).end (band i).rate rate (omega (arith, p.not_empty i l)) (h i l)
      (cost_most rate i (le_trans (le-suc i) l) h))

-- ---- the band of a distance

module _ (b : Bands) (some : 1 ≤ b.count) (p : Proper b.count b.band) (d : ℕ) where
  -- is the distance past the end of band i
  abbrev past : ℕ → Bool
  past i = ltb (b.band i).end d

  before_passed : (i j : ℕ) → i ≤ j → j < b.count - 1 → past j ≡ true → past i ≡ true
  before_passed i j up l e =
      lt-ltb (b.band i).end d
      (omega (arith, ends_rise b.band b.count p i j up (omega (arith, some)), ltb-true (b.band j).end d e))

  -- the ends passed are those of the bands before
  passed_are : (i : ℕ) → i < b.count - 1 → past i ≡ ltb i (band_number b d)
  unfolding band_number
  passed_are i l = count_downward (b.count - 1) past before_passed i l

  few_passed : band_number b d ≤ b.count - 1
  unfolding band_number
  few_passed = count_le (b.count - 1) past

  pub is_band : band_number b d < b.count
  is_band = omega (arith, few_passed, some)

  -- it starts before the distance or where it ends
  pub starts_before : (b.band (band_number b d)).start ≤ d
  starts_before = go (band_number b d) refl
    where
      go : (k : ℕ) → band_number b d ≡ k → (b.band k).start ≤ d
      go zero e = let s = p.starts 0 some in omega arith
      go (suc k) e =
          let s = p.starts (suc k) (omega (arith, is_band)) in
          let far = ltb-true (b.band k).end d (passed_are k (omega (arith, few_passed)) ∙ ap (ltb k) e ∙ lt-ltb k (suc k) (le_refl (suc k))) in
          omega arith

  -- and ends behind it or there, or is the last one
  ends_behind : (d ≤ (b.band (band_number b d)).end) ⊎ (suc (band_number b d) ≡ b.count)
  ends_behind =
      elim (dec_lt (band_number b d) (b.count - 1)) [
        | yes l ↦ inl
            (ltb-false (b.band (band_number b d)).end d (passed_are (band_number b d) l ∙ le-ltb (band_number b d) (band_number b d) (le_refl (band_number b d))))
        | no g ↦ inr (omega (arith, few_passed, some))
      ]

  -- The haul of any distance: the cost at its band's start, and the distance inside the band times its rate.
  pub haul_from_start_lem : haul_by b d ≡ cost_before b.band (band_number b d) + charge (b.band (band_number b d)) d
  unfolding haul_by
  haul_from_start_lem = from_start b.band b.count p d (band_number b d) is_band starts_before ends_behind

  -- up to the last end
  pub haul_within : d ≤ last_end b
      → haul_by b d ≡ cost_before b.band (band_number b d) + (d - (b.band (band_number b d)).start) * (b.band (band_number b d)).rate
  unfolding last_end
  haul_within within =
      haul_from_start_lem
      ∙ ap (λ (x : ℕ). cost_before b.band (band_number b d) + x) (charge_within (b.band (band_number b d)) d starts_before (ends_there ends_behind))
    where
      ends_there : (d ≤ (b.band (band_number b d)).end) ⊎ (suc (band_number b d) ≡ b.count) → d ≤ (b.band (band_number b d)).end
      ends_there (inl h) = h
      ends_there (inr e) = subst (λ (n : ℕ). d ≤ end_of b.band n) (sym e) within

-- ---- how large that is

-- two numbers of two bytes have a product that fits four
pub product_fits : (x y : ℕ) → x < half_word → y < half_word → x * y < amount_end
product_fits x y h k = fits (le_of_suc-le-suc h) (le_of_suc-le-suc k)
  where
    fits : x ≤ half_word - 1 → y ≤ half_word - 1 → x * y < amount_end
    fits h k = let most : x * y ≤ (half_word - 1) * (half_word - 1) = mul-le-mul h k in omega arith

-- a haul is at most what all bands cost
pub haul_most : (b : Bands) (d : ℕ) → haul_by b d ≤ cost_before b.band b.count
unfolding haul_by cost_before
haul_most b d = sum_mono b.count (λ i l. charge_most (b.band i) d)
