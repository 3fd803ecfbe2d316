-- Laws of least members: `least` is the value, `arg` the member that attains it.
use Prim.Native.Nat.{ℕ, zero, suc, ◌+◌, ◌*◌, ◌≤◌, ◌<◌, min}
use native.Mathlib.Nat.{add-zero, add-suc, le_refl, le_step, le_of_lt, lt-suc_self, not-suc-le-zero, mul-zero, mul-le-mul_left, min-eq_left, min-eq_right}
use native.Mathlib.Omega.{arith}
use mathlib.Core.Path.{◌≡◌, refl, sym, ap, ap₂, ◌∙◌}
use mathlib.Core.Logic.{◌⊎◌, inl, inr}
use mathlib.Core.Bool.{Bool, true, false, cond, not, ◌&&◌, ◌||◌, or_assoc, true≢false}
use borrow.Author.Tests.{eqb-true}
use lib.Dec.{eqb, ltb}
use Rattle.model.specs.Least.{any, least, arg}
use Rattle.model.specs.Sets.{count}
use Rattle.model.proofs.Bools.{cases, clash, fails, and_left, and_right, and_both, or_left, or_right, eqb_self, cond_le, Lt?, less, more, test<}
use Rattle.model.proofs.LoopLaws.{last_or, up_to}
use Rattle.model.proofs.CountLaws.{count_find, count_some}

-- ---- some member

pub any_of : (m i : ℕ) (S : ℕ → Bool) → i < m → S i ≡ true → any m S ≡ true
unfolding any
any_of zero i S h e = absurd (not-suc-le-zero h)
any_of (suc m) i S h e = go (last_or h) (λ k. any_of m i S k e)
  where
    go : (i ≡ m) ⊎ (i < m) → (i < m → any m S ≡ true) → S m || any m S ≡ true
    go (inl q) ih = or_left (S m) (any m S) (rw q at e)
    go (inr q) ih = or_right (S m) (any m S) (ih q)

pub none_of : (m i : ℕ) (S : ℕ → Bool) → any m S ≡ false → i < m → S i ≡ false
none_of m i S e l = fails (λ h. clash (any_of m i S l h) e)

pub any_counted : (m : ℕ) (S : ℕ → Bool) → 1 ≤ count m S → any m S ≡ true
any_counted m S h = let r = count_find m S h in any_of m r.0 S r.1 r.2

pub any_cong : (m : ℕ) (S T : ℕ → Bool) → ((i : ℕ) → i < m → S i ≡ T i) → any m S ≡ any m T
unfolding any
any_cong zero S T h = refl
any_cong (suc m) S T h = ap₂ ◌||◌ (h m (lt-suc_self m)) (any_cong m S T (λ i k. h i (le_step k)))

-- some number of two ranges
pub any_add : (k j : ℕ) (S : ℕ → Bool) → any (k + j) S ≡ any j (λ i. S (k + i)) || any k S
unfolding any
any_add k zero S = rw (add-zero k)
any_add k (suc j) S =
    rw (add-suc k j) (ap (λ (b : Bool). S (k + j) || b) (any_add k j S) ∙ sym (or_assoc (S (k + j)) (any j (λ i. S (k + i))) (any k S)))

pub any_none : (m : ℕ) (S : ℕ → Bool) → ((i : ℕ) → i < m → S i ≡ false) → any m S ≡ false
unfolding any
any_none zero S h = refl
any_none (suc m) S h = rw (h m (lt-suc_self m)) (any_none m S (λ i l. h i (le_step l)))

-- is k in S, where all members of S are below m
pub any_one : (m k : ℕ) (S : ℕ → Bool) → (S k ≡ true → k < m) → any m (λ i. S i && eqb i k) ≡ S k
any_one m k S below =
    cases (S k)
    (λ e. any_of m k (λ i. S i && eqb i k) (below e) (and_both e (eqb_self k)) ∙ sym e)
    (λ e. any_none m (λ i. S i && eqb i k)
    (λ i l. fails (λ h. let q = eqb-true i k (and_right (S i) (eqb i k) h) in clash (and_left (S i) (eqb i k) h) (ap S q ∙ e))) ∙ sym e)

-- ---- the member of least value

-- a is a member below m, of least value, and every member before it has a greater one
pub record Least (m : ℕ) (S : ℕ → Bool) (v : ℕ → ℕ) (a : ℕ) : Type 0 where
  pub below : a < m
  pub is_in_lem : S a ≡ true
  pub lowest : (k : ℕ) → k < m → S k ≡ true → v a ≤ v k
  pub first : (k : ℕ) → k < a → S k ≡ true → v a < v k

step : (i a : ℕ) (S : ℕ → Bool) (v : ℕ → ℕ) (p : Bool) → S i ≡ p → (q : Bool) → any i S ≡ q → (c : Bool) → Lt? (v i) (v a) c
    → (q ≡ true → Least i S v a) → (p || q) ≡ true → Least (suc i) S v (cond (p && (not q || c)) i a)
step i a S v false ep q eq c t ih e =
    let r : Least i S v a = ih e in
    record { below = le_step r.below; is_in_lem = r.is_in_lem; lowest = up_to _ i r.lowest (λ f. clash f ep); first = r.first }
step i a S v true ep false eq c t ih e =
    record {
      below = lt-suc_self i;
      is_in_lem = ep;
      lowest = up_to _ i (λ k l f. clash f (none_of i k S eq l)) (λ f. le_refl (v i));
      first = λ k l f. clash f (none_of i k S eq l);
    }
step i a S v true ep true eq true (less l) ih e =
    let r : Least i S v a = ih refl in
    record {
      below = lt-suc_self i;
      is_in_lem = ep;
      lowest = up_to _ i (λ k h f. omega (arith, r.lowest k h f)) (λ f. le_refl (v i));
      first = λ k h f. omega (arith, r.lowest k h f);
    }
step i a S v true ep true eq false (more l) ih e =
    let r : Least i S v a = ih refl in
    record { below = le_step r.below; is_in_lem = r.is_in_lem; lowest = up_to _ i r.lowest (λ f. l); first = r.first }

pub arg_least : (m : ℕ) (S : ℕ → Bool) (v : ℕ → ℕ) → any m S ≡ true → Least m S v (arg m S v)
unfolding any arg
arg_least zero S v e = absurd (true≢false (sym e))
arg_least (suc i) S v e = step i (arg i S v) S v (S i) refl (any i S) refl _ (test< (v i) (v (arg i S v))) (arg_least i S v) e

-- a set that is not empty has one or more
pub counted_any : (m : ℕ) (S : ℕ → Bool) → any m S ≡ true → 1 ≤ count m S
counted_any m S e = let r = arg_least m S (λ i. 0) e in count_some m (arg m S (λ i. 0)) S r.below r.is_in_lem

pub arg_cong : (m : ℕ) (S T : ℕ → Bool) (v : ℕ → ℕ) → ((i : ℕ) → i < m → S i ≡ T i) → arg m S v ≡ arg m T v
unfolding arg
arg_cong zero S T v h = refl
arg_cong (suc m) S T v h =
    rw (h m (lt-suc_self m), any_cong m S T (λ i k. h i (le_step k)), arg_cong m S T v (λ i k. h i (le_step k)))

pub arg_le : (m : ℕ) (S : ℕ → Bool) (v : ℕ → ℕ) → arg m S v ≤ m
unfolding arg
arg_le zero S v = le_refl 0
arg_le (suc m) S v =
    cond_le (S m && (not (any m S) || ltb (v m) (v (arg m S v)))) (le_step (le_refl m)) (le_step (arg_le m S v))

-- ---- the least value

value_step : (i a k : ℕ) (v : ℕ → ℕ) (p q c : Bool) → Lt? (v i) (v a) c → (q ≡ true → k ≡ v a)
    → (p || q) ≡ true → cond p (cond q (min (v i) k) (v i)) k ≡ v (cond (p && (not q || c)) i a)
value_step i a k v false q c t ih e = ih e
value_step i a k v true false c t ih e = refl
value_step i a k v true true true (less l) ih e = let r : k ≡ v a = ih refl in omega arith
value_step i a k v true true false (more l) ih e = let r : k ≡ v a = ih refl in omega arith

-- the value at `arg` is the least
pub least_at : (m : ℕ) (S : ℕ → Bool) (v : ℕ → ℕ) → any m S ≡ true → least m S v ≡ v (arg m S v)
unfolding any least arg
least_at zero S v e = absurd (true≢false (sym e))
least_at (suc i) S v e = value_step i (arg i S v) (least i S v) v (S i) (any i S) _ (test< (v i) (v (arg i S v))) (least_at i S v) e

pub least_le : (m i : ℕ) (S : ℕ → Bool) (v : ℕ → ℕ) → i < m → S i ≡ true → least m S v ≤ v i
least_le m i S v h e =
    let some = any_of m i S h e in
    omega (arith, least_at m S v some, (arg_least m S v some).lowest i h e)

pub least_cong : (m : ℕ) (S T : ℕ → Bool) (v : ℕ → ℕ) → ((i : ℕ) → i < m → S i ≡ T i) → least m S v ≡ least m T v
unfolding least
least_cong zero S T v h = refl
least_cong (suc m) S T v h =
    rw (h m (lt-suc_self m), any_cong m S T (λ i k. h i (le_step k)), least_cong m S T v (λ i k. h i (le_step k)))

pub least_bound : (m k : ℕ) (S : ℕ → Bool) (v : ℕ → ℕ) → ((i : ℕ) → i < m → v i ≤ k) → least m S v ≤ k
unfolding least
least_bound zero k S v h = omega arith
least_bound (suc m) k S v h =
    let here = h m (lt-suc_self m) in
    let before = least_bound m k S v (λ i l. h i (le_step l)) in
    cond_le (S m) (cond_le (any m S) (omega arith) here) before

-- ---- only the values below m count

module _ (S : ℕ → Bool) (v w : ℕ → ℕ) where
  pub least_values : (m : ℕ) → ((i : ℕ) → i < m → v i ≡ w i) → least m S v ≡ least m S w
  unfolding least
  least_values zero h = refl
  least_values (suc m) h = rw (h m (lt-suc_self m), least_values m (λ i l. h i (le_step l)))

  pub arg_values : (m : ℕ) → ((i : ℕ) → i < m → v i ≡ w i) → arg m S v ≡ arg m S w
  unfolding arg
  arg_values zero h = refl
  arg_values (suc m) h =
      let same = arg_values m (λ i l. h i (le_step l)) in
      rw (h m (lt-suc_self m), h (arg m S v) (omega (arith, arg_le m S v)), same)

-- a common factor
min_scaled : (k a b : ℕ) → min (k * a) (k * b) ≡ k * min a b
min_scaled k a b = go (ltb a b) (test< a b)
  where
    go : (c : Bool) → Lt? a b c → min (k * a) (k * b) ≡ k * min a b
    go true (less l) = omega (arith, mul-le-mul_left k (le_of_lt l), ap (λ x. k * x) (min-eq_left (le_of_lt l)))
    go false (more l) = omega (arith, mul-le-mul_left k l, ap (λ x. k * x) (min-eq_right l))

pub least_scaled : (m k : ℕ) (S : ℕ → Bool) (v : ℕ → ℕ) → least m S (λ i. k * v i) ≡ k * least m S v
unfolding least
least_scaled zero k S v = sym (mul-zero k)
least_scaled (suc m) k S v = go (S m) (any m S) (least_scaled m k S v)
  where
    go : (p q : Bool) → least m S (λ i. k * v i) ≡ k * least m S v
        → cond p (cond q (min (k * v m) (least m S (λ i. k * v i))) (k * v m)) (least m S (λ i. k * v i))
        ≡ k * cond p (cond q (min (v m) (least m S v)) (v m)) (least m S v)
    go true true ih = rw ih (min_scaled k (v m) (least m S v))
    go true false ih = refl
    go false q ih = ih
