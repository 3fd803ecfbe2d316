-- The quicker test is the four-point rule: `quick_metric_lem`.
-- Idea: the rule for a, b and for b, a at all p and q says that no |service a q - service b q| is above any service a p + service b p,
-- that is, that the greatest is not above the least. Of one facility with itself the rule says nothing.
use Prim.Native.Nat.{ℕ, zero, suc, ◌+◌, ◌≤◌, ◌<◌, min, max, zero-le}
use native.Mathlib.Nat.{le_step, lt-suc_self, not-suc-le-zero}
use native.Mathlib.Numerals.{add-one}
use native.Mathlib.Omega.{arith}
use native.Mathlib.Decide.{dec_lt}
use mathlib.Core.Path.{◌≡◌, refl, ap, ap₂, ◌∙◌}
use mathlib.Core.Logic.{◌⊎◌, inl, inr}
use mathlib.Core.Bool.{Bool, true}
use borrow.Author.Tests.{leb-true, le-leb}
use lib.Dec.{leb}
use Rattle.model.specs.Loops.{all_below}
use Rattle.model.specs.Least.{arg}
use Rattle.model.specs.Instance.{Instance, metric}
use Rattle.model.specs.QuickMetric.{greatest, apart, route, spread, quick_pair, quick_metric, route_from}
use Rattle.model.proofs.Bools.{same_test}
use Rattle.model.proofs.LoopLaws.{last_or, all_at, all_from}
use Rattle.model.proofs.LeastLaws.{any_of, arg_least, least_at, least_le}
use Rattle.model.proofs.CostLaws.{metric_rule, rule_metric}

-- ---- the greatest

greatest_at : (n i : ℕ) (v : ℕ → ℕ) → i < n → v i ≤ greatest n v
unfolding greatest
greatest_at zero i v l = absurd (not-suc-le-zero l)
greatest_at (suc n) i v l = go (last_or l) (greatest_at n i v)
  where
    go : (i ≡ n) ⊎ (i < n) → (i < n → v i ≤ greatest n v) → v i ≤ max (v n) (greatest n v)
    go (inl e) ih = rw e (omega arith)
    go (inr k) ih = omega (arith, ih k)

greatest_bound : (n h : ℕ) (v : ℕ → ℕ) → ((i : ℕ) → i < n → v i ≤ h) → greatest n v ≤ h
unfolding greatest
greatest_bound zero h v f = zero-le
greatest_bound (suc n) h v f = omega (arith, f n (lt-suc_self n), greatest_bound n h v (λ i l. f i (le_step l)))

-- ---- spread and route: at each client, and from each client

module _ (n : ℕ) (x y : ℕ → ℕ) where
  pub spread_at : (q : ℕ) → q < n → apart (x q) (y q) ≤ spread n x y
  unfolding spread
  spread_at q l = greatest_at n q (λ q. apart (x q) (y q)) l

  pub spread_bound : (k : ℕ) → ((q : ℕ) → q < n → apart (x q) (y q) ≤ k) → spread n x y ≤ k
  unfolding spread
  spread_bound k f = greatest_bound n k (λ q. apart (x q) (y q)) f

  pub route_at : (p : ℕ) → p < n → route n x y ≤ x p + y p
  unfolding route
  route_at p l = least_le n p (λ p. true) (λ p. x p + y p) l refl

  -- some client has the cheapest
  pub route_by : (j : ℕ) → j < n → (p : ℕ) × (p < n) × (route n x y ≡ x p + y p)
  unfolding route
  route_by j l =
      let some = any_of n j (λ p. true) l refl in
      (arg n (λ p. true) (λ p. x p + y p), (arg_least n (λ p. true) (λ p. x p + y p) some).below, least_at n (λ p. true) (λ p. x p + y p) some)

-- ---- the same as a loop over the clients makes them

pub spread_none : (x y : ℕ → ℕ) → 0 ≡ spread 0 x y
unfolding spread greatest
spread_none x y = refl

pub spread_more : (x y : ℕ → ℕ) (i d before now : ℕ) → before ≡ spread i x y → d ≡ apart (x i) (y i) → now ≡ max d before
    → now ≡ spread (i + 1) x y
unfolding spread greatest
spread_more x y i d before now h e k = k ∙ ap₂ max e h ∙ rw add-one

pub from_none : (h : ℕ) (x y : ℕ → ℕ) → h ≡ route_from h 0 x y
unfolding route_from
from_none h x y = refl

pub from_more : (h : ℕ) (x y : ℕ → ℕ) (i before now : ℕ) → before ≡ route_from h i x y → now ≡ min (x i + y i) before
    → now ≡ route_from h (i + 1) x y
unfolding route_from
from_more h x y i before now e k = k ∙ ap (λ r. min (x i + y i) r) e ∙ rw add-one

pub from_at : (h n p : ℕ) (x y : ℕ → ℕ) → p < n → route_from h n x y ≤ x p + y p
unfolding route_from
from_at h zero p x y l = absurd (not-suc-le-zero l)
from_at h (suc n) p x y l = go (last_or l) (from_at h n p x y)
  where
    go : (p ≡ n) ⊎ (p < n) → (p < n → route_from h n x y ≤ x p + y p) → min (x n + y n) (route_from h n x y) ≤ x p + y p
    go (inl e) ih = rw e (omega arith)
    go (inr k) ih = omega (arith, ih k)

pub from_below : (h n : ℕ) (x y : ℕ → ℕ) → route_from h n x y ≤ h
unfolding route_from
from_below h zero x y = omega arith
from_below h (suc n) x y = omega (arith, from_below h n x y)

from_above : (h n k : ℕ) (x y : ℕ → ℕ) → k ≤ h → ((p : ℕ) → p < n → k ≤ x p + y p) → k ≤ route_from h n x y
unfolding route_from
from_above h zero k x y l f = l
from_above h (suc n) k x y l f = omega (arith, f n (lt-suc_self n), from_above h n k x y l (λ p b. f p (le_step b)))

-- ---- the rule for two facilities, both ways

module _ (n : ℕ) (x y : ℕ → ℕ) where
  abbrev pub Rule : Type 0
  Rule = (p q : ℕ) → p < n → q < n → apart (x q) (y q) ≤ x p + y p

  quick_rule : quick_pair n x y ≡ true → Rule
  unfolding quick_pair
  quick_rule e p q lp lq = omega (arith, leb-true (spread n x y) (route n x y) e, route_at n x y p lp, spread_at n x y q lq)

  pub rule_quick : Rule → quick_pair n x y ≡ true
  unfolding quick_pair
  rule_quick rule =
      le-leb (spread n x y) (route n x y) (spread_bound n x y (route n x y) (λ q lq.
      let by = route_by n x y q lq in omega (arith, by.2, rule by.0 q by.1 lq)))

  -- a loop may begin with any h that no difference is above
  pub quick_from : (h : ℕ) → ((q : ℕ) → q < n → apart (x q) (y q) ≤ h) → leb (spread n x y) (route_from h n x y) ≡ quick_pair n x y
  quick_from h high =
      same_test
      (λ e. rule_quick (λ p q lp lq. omega (arith, leb-true (spread n x y) (route_from h n x y) e, from_at h n p x y lp, spread_at n x y q lq)))
      (λ e. le-leb (spread n x y) (route_from h n x y) (spread_bound n x y (route_from h n x y) (λ q lq.
      from_above h n (apart (x q) (y q)) x y (high q lq) (λ p lp. quick_rule e p q lp lq))))

module _ (I : Instance) where
  open I use {facilities as m, clients as n, service}

  abbrev pair : ℕ → ℕ → Bool
  pair a b = quick_pair n (service a) (service b)

  -- the answer stays that of the four loops, with any number of facilities and clients
  pub quick_metric_lem : quick_metric I ≡ metric I
  unfolding quick_metric
  quick_metric_lem = same_test to from
    where
      one : ((a b : ℕ) → a < m → b < a → Rule n (service a) (service b)) → (a b p q : ℕ) → a < m → b < m → p < n → q < n
          → service a q ≤ service a p + service b p + service b q
      one rule a b p q la lb lp lq =
          elim (dec_lt b a) [
            | yes l ↦ omega (arith, rule a b la l p q lp lq)
            | no g ↦ elim (dec_lt a b) [
              | yes k ↦ omega (arith, rule b a lb k p q lp lq)
              | no f ↦ let e : a ≡ b = omega arith in rw e (omega arith)
            ]
          ]

      to : all_below m (λ a. all_below a (pair a)) ≡ true → metric I ≡ true
      to e = rule_metric I (one (λ a b la lb.
          quick_rule n (service a) (service b) (all_at (pair a) a b (all_at (λ a. all_below a (pair a)) m a e la) lb)))

      from : metric I ≡ true → all_below m (λ a. all_below a (pair a)) ≡ true
      from e =
          all_from (λ a. all_below a (pair a)) m (λ a la. all_from (pair a) a (λ b lb.
          rule_quick n (service a) (service b) (λ p q lp lq.
          omega (arith, metric_rule I e a b p q la (omega arith) lp lq, metric_rule I e b a p q (omega arith) la lp lq))))
