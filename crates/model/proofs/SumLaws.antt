-- Laws of finite sums.
use Prim.Native.Nat.{ℕ, zero, suc, ◌+◌, ◌*◌, ◌≤◌, ◌<◌, zero-le}
use native.Mathlib.Nat.{le_refl, le-suc, le_trans, le_step, lt-suc_self, add-le-add, mul-zero, not-suc-le-zero}
use native.Mathlib.Numerals.{add-one}
use native.Mathlib.Omega.{arith}
use mathlib.Core.Path.{◌≡◌, refl, sym, ap, ap₂, ◌∙◌}
use mathlib.Core.Logic.{◌⊎◌, inl, inr}
use mathlib.Core.Bool.{Bool, true, false, not, ◌&&◌, ◌||◌}
use lib.Dec.{eqb}
use Rattle.model.specs.Loops.{most_term, on, sum}
use Rattle.model.proofs.Bools.{Eq?, same, diff, test}
use Rattle.model.proofs.LoopLaws.{last_or}

-- ---- for loops in code

pub sum_none : (f : ℕ → ℕ) → 0 ≡ sum 0 f
unfolding sum
sum_none f = refl

pub sum_more : (f : ℕ → ℕ) (i : ℕ) → sum (i + 1) f ≡ sum i f + f i
unfolding sum
sum_more f i = rw add-one

-- a loop's total of the first i terms of f: their sum, and at most so much for each
pub record Summed (f : ℕ → ℕ) (total i : ℕ) : Type 0 where
  pub exact : total ≡ sum i f
  pub small : total ≤ i * most_term

module _ (f : ℕ → ℕ) where
  pub summed_none : Summed f 0 0
  summed_none = record { exact = sum_none f; small = omega arith }

  pub summed_more : (total i x : ℕ) → Summed f total i → x ≡ f i → x ≤ most_term → Summed f (total + x) (i + 1)
  summed_more total i x h e small = record { exact = rw (h.exact, e) (sym (sum_more f i)); small = omega (arith, h.small) }

-- n terms of at most b
pub sum_bound : (n b : ℕ) (f : ℕ → ℕ) → ((i : ℕ) → i < n → f i ≤ b) → sum n f ≤ n * b
unfolding sum
sum_bound zero b f h = zero-le
sum_bound (suc n) b f h = omega (arith, sum_bound n b f (λ i l. h i (le_step l)), h n (lt-suc_self n))

-- ---- term by term

pub sum_mono : (n : ℕ) {f g : ℕ → ℕ} → ((i : ℕ) → i < n → f i ≤ g i) → sum n f ≤ sum n g
unfolding sum
sum_mono zero h = zero-le
sum_mono (suc n) h = add-le-add (sum_mono n (λ i l. h i (le_step l))) (h n (lt-suc_self n))

pub sum_cong : (n : ℕ) {f g : ℕ → ℕ} → ((i : ℕ) → i < n → f i ≡ g i) → sum n f ≡ sum n g
unfolding sum
sum_cong zero h = refl
sum_cong (suc n) h = ap₂ ◌+◌ (sum_cong n (λ i l. h i (le_step l))) (h n (lt-suc_self n))

pub sum_add : (n : ℕ) (f g : ℕ → ℕ) → sum n (λ i. f i + g i) ≡ sum n f + sum n g
unfolding sum
sum_add zero f g = refl
sum_add (suc n) f g = omega (arith, sum_add n f g)

pub sum_mul : (n k : ℕ) (f : ℕ → ℕ) → sum n (λ i. k * f i) ≡ k * sum n f
unfolding sum
sum_mul zero k f = omega arith
sum_mul (suc n) k f = omega (arith, sum_mul n k f)

pub sum_zero : (n : ℕ) → sum n (λ i. 0) ≡ 0
unfolding sum
sum_zero zero = refl
sum_zero (suc n) = omega (arith, sum_zero n)

-- a linear inequality between terms holds between the sums
pub sum_linear : (n : ℕ) (u v w x y : ℕ → ℕ) → ((i : ℕ) → i < n → u i + v i ≤ w i + x i + 2 * y i)
    → sum n u + sum n v ≤ sum n w + sum n x + 2 * sum n y
unfolding sum
sum_linear zero u v w x y h = omega arith
sum_linear (suc n) u v w x y h = omega (arith, sum_linear n u v w x y (λ i k. h i (le_step k)), h n (lt-suc_self n))

-- a term is at most the sum
pub sum_term : (n : ℕ) (f : ℕ → ℕ) (i : ℕ) → i < n → f i ≤ sum n f
unfolding sum
sum_term zero f i h = absurd (not-suc-le-zero h)
sum_term (suc n) f i h = go (last_or h) (sum_term n f i)
  where
    go : (i ≡ n) ⊎ (i < n) → (i < n → f i ≤ sum n f) → f i ≤ sum n f + f n
    go (inl e) ih = rw e (omega arith)
    go (inr k) ih = let r = ih k in omega arith

-- the order of two sums may be changed
pub sum_swap : (n m : ℕ) (f : ℕ → ℕ → ℕ) → sum n (λ i. sum m (λ k. f i k)) ≡ sum m (λ k. sum n (λ i. f i k))
unfolding sum
sum_swap zero m f = sym (sum_zero m)
sum_swap (suc n) m f = let ih = sum_swap n m f in omega (arith, sum_add m (λ k. sum n (λ i. f i k)) (f n))

-- ---- one term

-- beyond the sum's range nothing equals k
sum_one_out : (n k : ℕ) (f : ℕ → ℕ) → n ≤ k → sum n (λ i. on (eqb k i) (f i)) ≡ 0
unfolding sum
sum_one_out zero k f h = refl
sum_one_out (suc n) k f h = go (eqb k n) (test k n) (sum_one_out n k f (le_trans (le-suc n) h))
  where
    go : (b : Bool) → Eq? k n b → sum n (λ i. on (eqb k i) (f i)) ≡ 0 → sum n (λ i. on (eqb k i) (f i)) + on b (f n) ≡ 0
    go true (same e) ih = absurd (omega arith)
    go false (diff e) ih = omega arith

-- of a sum over one number that term is left
pub sum_one : (n k : ℕ) (f : ℕ → ℕ) → k < n → sum n (λ i. on (eqb k i) (f i)) ≡ f k
unfolding sum
sum_one zero k f h = absurd (not-suc-le-zero h)
sum_one (suc n) k f h = go (eqb k n) (test k n) (sum_one n k f)
  where
    S : ℕ
    S = sum n (λ i. on (eqb k i) (f i))

    go : (b : Bool) → Eq? k n b → (k < n → S ≡ f k) → S + on b (f n) ≡ f k
    go true (same e) ih = omega (arith, sum_one_out n k f (omega arith), ap f e)
    go false (diff e) ih = omega (arith, ih (omega arith))

-- two sums whose terms agree except at j differ as their terms at j do
pub sum_change : (n j : ℕ) (f g : ℕ → ℕ) → j < n → ((k : ℕ) → k < n → ¬ (k ≡ j) → f k ≡ g k) → sum n f + g j ≡ sum n g + f j
unfolding sum
sum_change zero j f g h agree = absurd (not-suc-le-zero h)
sum_change (suc n) j f g h agree = go (last_or h) (λ l. sum_change n j f g l (λ k below. agree k (le_step below)))
  where
    go : (j ≡ n) ⊎ (j < n) → (j < n → sum n f + g j ≡ sum n g + f j) → sum n f + f n + g j ≡ sum n g + g n + f j
    go (inl e) ih =
        let before = sum_cong n (λ k l. agree k (le_step l) (λ q. omega arith)) in
        omega (arith, before, ap f e, ap g e)
    go (inr l) ih = omega (arith, ih l, agree n (lt-suc_self n) (λ q. omega arith))

-- ---- terms behind a test

pub on_zero : (b : Bool) → on b 0 ≡ 0
on_zero true = refl
on_zero false = refl

pub on_true : {b : Bool} (x : ℕ) → b ≡ true → on b x ≡ x
on_true x e = rw e

pub on_le : (b : Bool) (x : ℕ) → on b x ≤ x
on_le true x = le_refl x
on_le false x = zero-le

pub on_mono : (b : Bool) {x y : ℕ} → x ≤ y → on b x ≤ on b y
on_mono true h = h
on_mono false h = zero-le

pub on_mul : (b : Bool) (k x : ℕ) → on b (k * x) ≡ k * on b x
on_mul true k x = refl
on_mul false k x = sym (mul-zero k)

pub on_swap : (a b : Bool) (x : ℕ) → on a (on b x) ≡ on b (on a x)
on_swap true b x = refl
on_swap false b x = sym (on_zero b)

pub on_and : (a b : Bool) (x : ℕ) → on (a && b) x ≡ on a (on b x)
on_and true b x = refl
on_and false b x = refl

pub on_and_le : (a b : Bool) (x : ℕ) → on (a && b) x ≤ on a x
on_and_le true b x = on_le b x
on_and_le false b x = zero-le

pub on_or_le : (a b : Bool) (x : ℕ) → on (a || b) x ≤ on a x + on b x
on_or_le true b x = omega arith
on_or_le false b x = omega arith

-- what a second test keeps and what it leaves
pub on_split : (a b : Bool) (x : ℕ) → on (a && b) x + on (a && not b) x ≡ on a x
on_split true true x = omega arith
on_split true false x = omega arith
on_split false b x = refl

pub on_sum : (n : ℕ) (b : Bool) (f : ℕ → ℕ) → on b (sum n f) ≡ sum n (λ i. on b (f i))
on_sum n true f = refl
on_sum n false f = sym (sum_zero n)

-- the same value at each member of S
pub sum_on_same : (m k : ℕ) (S : ℕ → Bool) (w : ℕ → ℕ) → ((i : ℕ) → i < m → w i ≡ k)
    → sum m (λ i. on (S i) (w i)) ≡ sum m (λ i. on (S i) 1) * k
unfolding sum
sum_on_same zero k S w h = omega arith
sum_on_same (suc m) k S w h = go (S m) (sum_on_same m k S w (λ i l. h i (le_step l)))
  where
    go : (b : Bool) → sum m (λ i. on (S i) (w i)) ≡ sum m (λ i. on (S i) 1) * k
        → sum m (λ i. on (S i) (w i)) + on b (w m) ≡ (sum m (λ i. on (S i) 1) + on b 1) * k
    go true ih = omega (arith, ih, h m (lt-suc_self m))
    go false ih = omega (arith, ih)

-- a common factor over the members of a set
pub sum_on_mul : (m k : ℕ) (S : ℕ → Bool) (w : ℕ → ℕ) → sum m (λ i. on (S i) (k * w i)) ≡ k * sum m (λ i. on (S i) (w i))
sum_on_mul m k S w = sum_cong m (λ i l. on_mul (S i) k (w i)) ∙ sum_mul m k (λ i. on (S i) (w i))

-- an inequality at each member of H, summed
pub sum_over : (m : ℕ) (H : ℕ → Bool) (a b c d : ℕ → ℕ) → ((i : ℕ) → i < m → H i ≡ true → a i + b i ≤ c i + d i)
    → sum m (λ i. on (H i) (a i)) + sum m (λ i. on (H i) (b i)) ≤ sum m (λ i. on (H i) (c i)) + sum m (λ i. on (H i) (d i))
sum_over m H a b c d h =
    omega (
      arith,
      sum_mono m (λ i l. at i (H i) (h i l)),
      sum_add m (λ i. on (H i) (a i)) (λ i. on (H i) (b i)),
      sum_add m (λ i. on (H i) (c i)) (λ i. on (H i) (d i)),
    )
  where
    at : (i : ℕ) (g : Bool) → (g ≡ true → a i + b i ≤ c i + d i) → on g (a i) + on g (b i) ≤ on g (c i) + on g (d i)
    at i true k = k refl
    at i false k = omega arith

-- Double counting: each j below n stands at s j below m. The sum over the o in H of what stands at o is the sum over the j that stand in H.
pub gather : (m n : ℕ) (H : ℕ → Bool) (s x : ℕ → ℕ) → ((j : ℕ) → j < n → s j < m)
    → sum m (λ o. on (H o) (sum n (λ j. on (eqb (s j) o) (x j)))) ≡ sum n (λ j. on (H (s j)) (x j))
gather m n H s x h =
    sum_cong m (λ o l. on_sum n (H o) (λ j. on (eqb (s j) o) (x j)))
    ∙ (sum_swap m n (λ o j. on (H o) (on (eqb (s j) o) (x j)))
    ∙ sum_cong n (λ j l. sum_cong m (λ o k. on_swap (H o) (eqb (s j) o) (x j)) ∙ sum_one m (s j) (λ o. on (H o) (x j)) (h j l)))
