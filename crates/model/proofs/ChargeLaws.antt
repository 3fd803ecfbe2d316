-- Laws of charges: sums and multiples of monotone subadditive charges are such, and a charge of this kind keeps metric costs metric.
use Prim.Native.Nat.{ℕ, zero, suc, ◌+◌, ◌*◌, ◌<◌, min, zero-le}
use native.Mathlib.Nat.{le_step, lt-suc_self, mul-le-mul_right}
use native.Mathlib.Omega.{arith}
use mathlib.Core.Path.{◌≡◌}
use mathlib.Core.Bool.{true}
use Rattle.model.specs.Loops.{sum}
use Rattle.model.specs.Instance.{Instance, metric}
use Rattle.model.specs.Charges.{charged, MonotoneSubadditive}
use Rattle.model.proofs.CostLaws.{metric_rule, rule_metric}

no_charge : MonotoneSubadditive (λ d. 0)
no_charge = record { monotone = λ a b h. zero-le; subadditive = λ a b. zero-le }

-- a distance up to an end
pub charge_up_to : (end : ℕ) → MonotoneSubadditive (λ d. min d end)
charge_up_to end = record { monotone = λ a b h. omega arith; subadditive = λ a b. omega arith }

pub charge_both : (f g : ℕ → ℕ) → MonotoneSubadditive f → MonotoneSubadditive g → MonotoneSubadditive (λ d. f d + g d)
charge_both f g u v =
    record {
      monotone = λ a b h. omega (arith, u.monotone a b h, v.monotone a b h);
      subadditive = λ a b. omega (arith, u.subadditive a b, v.subadditive a b);
    }

pub charge_times : (f : ℕ → ℕ) (k : ℕ) → MonotoneSubadditive f → MonotoneSubadditive (λ d. f d * k)
charge_times f k u =
    record {
      monotone = λ a b h. mul-le-mul_right k (u.monotone a b h);
      subadditive = λ a b. omega (arith, mul-le-mul_right k (u.subadditive a b));
    }

pub charge_sum : (n : ℕ) (f : ℕ → ℕ → ℕ) → ((i : ℕ) → i < n → MonotoneSubadditive (f i)) → MonotoneSubadditive (λ d. sum n (λ i. f i d))
unfolding sum
charge_sum zero f h = no_charge
charge_sum (suc n) f h = charge_both (λ d. sum n (λ i. f i d)) (f n) (charge_sum n f (λ i l. h i (le_step l))) (h n (lt-suc_self n))

-- the same charge by another name
pub charge_is : (f g : ℕ → ℕ) → ((d : ℕ) → f d ≡ g d) → MonotoneSubadditive g → MonotoneSubadditive f
charge_is f g e u =
    record {
      monotone = λ a b h. omega (arith, e a, e b, u.monotone a b h);
      subadditive = λ a b. omega (arith, e a, e b, e (a + b), u.subadditive a b);
    }

-- Distances that keep the four-point rule give charges that keep it.
pub charge_metric : (f : ℕ → ℕ) (I : Instance) → MonotoneSubadditive f → metric I ≡ true → metric (charged f I) ≡ true
unfolding charged
charge_metric f I u h =
    rule_metric (charged f I) (λ a b p q la lb lp lq.
    let x = I.service a p in
    let y = I.service b p in
    let z = I.service b q in
    omega (
      arith,
      u.monotone (I.service a q) (x + y + z) (metric_rule I h a b p q la lb lp lq),
      u.subadditive (x + y) z,
      u.subadditive x y,
    ))
