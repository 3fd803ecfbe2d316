-- Bands that join from 0 on and whose rates never rise charge monotonely and at most additively, so that they keep metric distances metric.
--
-- Each band's charge is its end's share less its start's, and each start is the end before; so the haul is a sum, over the bands, of the
-- distance up to the band's end times what the rate falls by after it. Every term is monotone and subadditive.
use Prim.Native.Nat.{ℕ, zero, suc, ◌+◌, ◌-◌, ◌*◌, ◌≤◌, ◌<◌, min}
use native.Mathlib.Nat.{le_step, le-suc, le_trans, lt-suc_self}
use native.Mathlib.Omega.{arith}
use mathlib.Core.Path.{◌≡◌, refl, sym, ap, ◌∙◌}
use mathlib.Core.Bool.{true}
use Rattle.model.specs.Loops.{sum}
use Rattle.model.specs.Instance.{Instance, metric}
use Rattle.model.specs.Charges.{charged, MonotoneSubadditive}
use Rattle.model.proofs.ChargeLaws.{charge_up_to, charge_times, charge_both, charge_sum, charge_is, charge_metric}
use Rattle.tariff.specs.declared.bands.Band.{Band}
use Rattle.tariff.specs.Bands.{Bands, inside, charge, haul_by, end_of}

-- The first n bands join from 0 on, none is empty, and no rate is above the one before.
pub record Proper (n : ℕ) (band : ℕ → Band) : Type 0 where
  pub starts : (i : ℕ) → i < n → (band i).start ≡ end_of band i
  pub not_empty : (i : ℕ) → i < n → (band i).start < (band i).end
  pub no_rise_lem : (i : ℕ) → suc i < n → (band (suc i)).rate ≤ (band i).rate

pub proper_less : (n : ℕ) (band : ℕ → Band) → Proper (suc n) band → Proper n band
proper_less n band p =
    record {
      starts = λ i l. p.starts i (le_step l);
      not_empty = λ i l. p.not_empty i (le_step l);
      no_rise_lem = λ i l. p.no_rise_lem i (le_step l);
    }

-- the same bands by another name
pub proper_cong : (n : ℕ) (f g : ℕ → Band) → ((i : ℕ) → i < n → f i ≡ g i) → Proper n f → Proper n g
proper_cong n f g e p =
    record {
      starts = λ i l. rw (← e i l) (p.starts i l ∙ ends i l);
      not_empty = λ i l. rw (← e i l) (p.not_empty i l);
      no_rise_lem = λ i l. rw (← e (suc i) l, ← e i (le_trans (le-suc (suc i)) l)) (p.no_rise_lem i l);
    }
  where
    ends : (i : ℕ) → i < n → end_of f i ≡ end_of g i
    ends zero l = refl
    ends (suc i) l = ap (λ (b : Band). b.end) (e i (le_trans (le-suc (suc i)) l))

module _ (band : ℕ → Band) where
  -- what the rate falls by after band i
  abbrev fall : ℕ → ℕ
  fall i = (band i).rate - (band (suc i)).rate

  -- the distance up to the end of band i
  abbrev up_to : ℕ → ℕ → ℕ
  up_to i d = min d (band i).end

  -- one step in numbers: x, y the distances up to this end and the next, r and s the rates
  fall_step : (g x y r s : ℕ) → x ≤ y → s ≤ r → g + x * r + (y - x) * s ≡ g + x * (r - s) + y * s
  fall_step g x y r s h k =
      let e : (y - x) * s + x * s ≡ y * s = rw (sym (ap (λ (z : ℕ). z * s) (split x y h))) (omega arith) in
      let f : x * (r - s) + x * s ≡ x * r = rw (sym (ap (λ (z : ℕ). x * z) (split s r k))) (omega arith) in
      omega arith
    where
      split : (a b : ℕ) → a ≤ b → b - a + a ≡ b
      split a b h = omega arith

  by_falls : (n d : ℕ) → Proper (suc n) band
      → sum (suc n) (λ i. charge (band i) d) ≡ sum n (λ i. up_to i d * fall i) + up_to n d * (band n).rate
  unfolding sum charge inside
  by_falls zero d p =
      let s = p.starts 0 (lt-suc_self 0) in
      let e : min d (band 0).end - min d (band 0).start ≡ min d (band 0).end = omega arith in
      rw e refl
  by_falls (suc n) d p =
      let ih = by_falls n d (proper_less (suc n) band p) in
      let s = p.starts (suc n) (lt-suc_self (suc n)) in
      let joins : min d (band (suc n)).start ≡ min d (band n).end = ap (min d) s in
      let longer : min d (band n).end ≤ min d (band (suc n)).end = omega (arith, p.not_empty (suc n) (lt-suc_self (suc n))) in
      let one = fall_step (sum n (λ i. up_to i d * fall i)) (min d (band n).end) (min d (band (suc n)).end) (band n).rate (band (suc n)).rate
      longer (p.no_rise_lem n (lt-suc_self (suc n))) in
      rw joins (omega arith)

  bands_charge : (n : ℕ) → 1 ≤ n → Proper n band → MonotoneSubadditive (λ d. sum n (λ i. charge (band i) d))
  bands_charge zero some p = absurd (omega arith)
  bands_charge (suc n) some p =
      charge_is (λ d. sum (suc n) (λ i. charge (band i) d)) (λ d. sum n (λ i. up_to i d * fall i) + up_to n d * (band n).rate)
      (λ d. by_falls n d p)
      (charge_both (λ d. sum n (λ i. up_to i d * fall i)) (λ d. up_to n d * (band n).rate)
      (charge_sum n (λ i d. up_to i d * fall i) (λ i l. charge_times (up_to i) (fall i) (charge_up_to (band i).end)))
      (charge_times (up_to n) (band n).rate (charge_up_to (band n).end)))

module _ (b : Bands) (some : 1 ≤ b.count) (p : Proper b.count b.band) where
  -- A haul does not fall as the way gets longer, and is no more for a way than for its two parts.
  pub haul_charge : MonotoneSubadditive (haul_by b)
  unfolding haul_by
  haul_charge = bands_charge b.band b.count some p

  -- Distances that keep the four-point rule give hauls that keep it.
  pub haul_metric : (I : Instance) → metric I ≡ true → metric (charged (haul_by b) I) ≡ true
  haul_metric I h = charge_metric (haul_by b) I haul_charge h
