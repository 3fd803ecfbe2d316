-- Laws of counts and of sums over a set, of a set with a member more or less, and of the first members of a set.
use Prim.Native.Nat.{ℕ, zero, suc, ◌+◌, ◌*◌, ◌≤◌, ◌<◌, min, zero-le}
use native.Mathlib.Nat.{le_refl, le_step, lt-suc_self, not-suc-le-zero, le_of_suc-le-suc, eq-or-lt_of_le, add-zero}
use native.Mathlib.Omega.{arith}
use native.Mathlib.Decide.{dec_lt}
use mathlib.Core.Path.{◌≡◌, refl, sym, ap, ◌∙◌}
use mathlib.Core.Bool.{Bool, true, false, not, ◌&&◌, ◌||◌}
use mathlib.Core.Logic.{inl, inr}
use borrow.Author.Tests.{ltb-true, ltb-false, lt-ltb, le-ltb}
use lib.Dec.{eqb, ltb}
use Rattle.model.specs.Loops.{on, sum}
use Rattle.model.specs.Sets.{sum_on, count, plus, minus}
use Rattle.model.proofs.Bools.{cases, clash, and_left, Eq?, same, diff, test, Lt?, less, more, test<}
use Rattle.model.proofs.TestSetLaws.{minus_in}
use Rattle.model.proofs.SumLaws.{sum_bound, sum_mono, sum_cong, sum_add, sum_term, sum_one, on_le, on_or_le, on_split}

-- nothing is summed over a set without members
pub count_zero : (m : ℕ) (S : ℕ → Bool) (w : ℕ → ℕ) → count m S ≡ 0 → sum_on m S w ≡ 0
unfolding sum
count_zero zero S w h = refl
count_zero (suc m) S w h =
    cases (S m)
    (λ e. let h2 = rw e at h in absurd (omega arith))
    (λ e. let h2 = rw e at h in rw e (let ih = count_zero m S w (omega arith) in omega arith))

-- a set that is counted has a member
pub count_find : (m : ℕ) (S : ℕ → Bool) → 1 ≤ count m S → (i : ℕ) × (i < m) × (S i ≡ true)
unfolding sum
count_find zero S h = absurd (not-suc-le-zero h)
count_find (suc m) S h =
    cases (S m)
    (λ e. (m, lt-suc_self m, e))
    (λ e. let h2 = rw e at h in let r = count_find m S (omega arith) in (r.0, le_step r.1, r.2))

-- and a set with a member is counted
pub count_some : (m i : ℕ) (S : ℕ → Bool) → i < m → S i ≡ true → 1 ≤ count m S
count_some m i S h e = let t = sum_term m (λ k. on (S k) 1) i h in rw e at t

pub count_le : (m : ℕ) (S : ℕ → Bool) → count m S ≤ m
count_le m S = omega (arith, sum_bound m 1 (λ i. on (S i) 1) (λ i l. on_le (S i) 1))

pub count_cong : (m : ℕ) (S T : ℕ → Bool) → ((i : ℕ) → i < m → S i ≡ T i) → count m S ≡ count m T
count_cong m S T h = sum_cong m (λ i l. ap (λ (b : Bool). on b 1) (h i l))

-- how many of the numbers below m are below k
pub count_under : (m k : ℕ) → count m (λ i. ltb i k) ≡ min m k
unfolding sum
count_under zero k = omega arith
count_under (suc m) k = go (ltb m k) (test< m k) (count_under m k)
  where
    go : (b : Bool) → Lt? m k b → count m (λ i. ltb i k) ≡ min m k → count m (λ i. ltb i k) + on b 1 ≡ min (suc m) k
    go true (less l) ih = omega arith
    go false (more l) ih = omega arith

-- a set that has every number below a member has just those below its count
pub count_downward : (n : ℕ) (S : ℕ → Bool) → ((i j : ℕ) → i ≤ j → j < n → S j ≡ true → S i ≡ true) → (i : ℕ) → i < n → S i ≡ ltb i (count n S)
unfolding sum
count_downward zero S closed i l = absurd (not-suc-le-zero l)
count_downward (suc n) S closed i l = go (count_downward n S (λ i j up below. closed i j up (le_step below)))
  where
    go : ((k : ℕ) → k < n → S k ≡ ltb k (count n S)) → S i ≡ ltb i (count n S + on (S n) 1)
    go before =
        cases (S n)
        (λ e. let all = whole e in rw e (closed i n (le_of_suc-le-suc l) (lt-suc_self n) e ∙ sym (lt-ltb i (count n S + 1) (omega arith))))
        (λ e. rw e (elim (eq-or-lt_of_le (le_of_suc-le-suc l)) [
          | inl k ↦ ap S k ∙ e ∙ sym (le-ltb i (count n S + 0) (omega (arith, count_le n S)))
          | inr k ↦ before i k ∙ ap (ltb i) (sym (add-zero (count n S)))
        ]))
      where
        whole : S n ≡ true → count n S ≡ n
        whole e =
            elim (dec_lt (count n S) n) [
              | yes b ↦ clash (closed (count n S) n (omega arith) (lt-suc_self n) e) (before (count n S) b ∙ le-ltb (count n S) (count n S) (le_refl (count n S)))
              | no g ↦ omega (arith, count_le n S)
            ]

-- ---- sums over a set beside its count

-- if each member of S gains at most d, S gains at most count S times d
pub sum_shift : (m d : ℕ) (S : ℕ → Bool) (a b : ℕ → ℕ) → ((i : ℕ) → i < m → S i ≡ true → a i ≤ b i + d)
    → sum_on m S a ≤ sum_on m S b + count m S * d
unfolding sum
sum_shift zero d S a b h = zero-le
sum_shift (suc m) d S a b h =
    let ih = sum_shift m d S a b (λ i k. h i (le_step k)) in
    cases (S m)
    (λ e. let k = h m (lt-suc_self m) e in rw e (omega arith))
    (λ e. rw e (omega arith))

-- count S times a lower bound of c on S is at most the sum
pub sum_above : (m d : ℕ) (S : ℕ → Bool) (c : ℕ → ℕ) → ((i : ℕ) → i < m → S i ≡ true → d ≤ c i) → count m S * d ≤ sum_on m S c
unfolding sum
sum_above zero d S c h = omega arith
sum_above (suc m) d S c h =
    let ih = sum_above m d S c (λ i k. h i (le_step k)) in
    cases (S m)
    (λ e. let k = h m (lt-suc_self m) e in rw e (omega arith))
    (λ e. rw e (omega arith))

-- ---- one member more, one less

pub count_plus : (m o : ℕ) (S : ℕ → Bool) → o < m → S o ≡ false → count m (plus S o) ≡ suc (count m S)
count_plus m o S l e =
    sum_cong m (λ i k. at i (eqb o i) (test o i)) ∙ sum_add m (λ i. on (eqb o i) 1) (λ i. on (S i) 1)
    ∙ (let p = sum_one m o (λ i. 1) l in omega arith)
  where
    at : (i : ℕ) (b : Bool) → Eq? o i b → on (b || S i) 1 ≡ on b 1 + on (S i) 1
    at i true (same q) = rw (sym (ap S q) ∙ e)
    at i false (diff q) = omega arith

-- the sum over a set with one more member
pub sum_plus_le : (m o : ℕ) (S : ℕ → Bool) (w : ℕ → ℕ) → o < m → sum_on m (plus S o) w ≤ sum_on m S w + w o
sum_plus_le m o S w l =
    omega (
      arith,
      sum_mono m (λ i k. on_or_le (eqb o i) (S i) (w i)),
      sum_add m (λ i. on (eqb o i) (w i)) (λ i. on (S i) (w i)),
      sum_one m o w l,
    )

-- what a set sums to with one more member
pub sum_plus : (m o : ℕ) (S : ℕ → Bool) (w : ℕ → ℕ) → o < m → S o ≡ false → sum_on m (plus S o) w ≡ sum_on m S w + w o
sum_plus m o S w l e =
    sum_cong m (λ i h. at i (eqb o i) (test o i))
    ∙ (sum_add m (λ i. on (S i) (w i)) (λ i. on (eqb o i) (w i)) ∙ ap (λ x. sum_on m S w + x) (sum_one m o w l))
  where
    at : (i : ℕ) (b : Bool) → Eq? o i b → on (b || S i) (w i) ≡ on (S i) (w i) + on b (w i)
    at i true (same q) = rw (sym (ap S q) ∙ e) (omega arith)
    at i false (diff q) = omega arith

-- what a set sums to without one of its members
pub sum_minus : (m f : ℕ) (S : ℕ → Bool) (w : ℕ → ℕ) → f < m → S f ≡ true
    → sum_on m (minus S f) w + w f ≡ sum_on m S w
sum_minus m f S w l e =
    ap (λ x. sum_on m (minus S f) w + x) (sym (sum_one m f w l))
    ∙ (sym (sum_add m (λ i. on (minus S f i) (w i)) (λ i. on (eqb f i) (w i)))
    ∙ sum_cong m (λ i h. at i (eqb f i) (test f i)))
  where
    at : (i : ℕ) (b : Bool) → Eq? f i b → on (not b && S i) (w i) + on b (w i) ≡ on (S i) (w i)
    at i true (same q) = rw (sym (ap S q) ∙ e) (omega arith)
    at i false (diff q) = omega arith

pub count_minus : (m f : ℕ) (S : ℕ → Bool) → f < m → S f ≡ true → suc (count m (minus S f)) ≡ count m S
count_minus m f S l e = let h = sum_minus m f S (λ i. 1) l e in omega arith

-- two members are two
pub count_two : (m f g : ℕ) (S : ℕ → Bool) → f < m → g < m → S f ≡ true → S g ≡ true → ¬ (f ≡ g) → 2 ≤ count m S
count_two m f g S lf lg ef eg d =
    let one = count_some m g (minus S f) lg (minus_in S f g d eg) in
    omega (arith, count_minus m f S lf ef)

-- a set inside another that has one member more counts fewer
pub count_fewer : (m o : ℕ) (S T : ℕ → Bool) → o < m → ((i : ℕ) → i < m → S i ≡ true → T i ≡ true) → S o ≡ false → T o ≡ true
    → count m S < count m T
count_fewer m o S T l sub so to =
    omega (
      arith,
      count_plus m o S l so,
      sum_mono m (λ i k. at i (eqb o i) (test o i) (sub i k)),
    )
  where
    at : (i : ℕ) (b : Bool) → Eq? o i b → (S i ≡ true → T i ≡ true) → on (b || S i) 1 ≤ on (T i) 1
    at i true (same q) h = rw (sym (ap T q) ∙ to) (le_refl 1)
    at i false (diff q) h = cases (S i) (λ e. rw (e, h e) (le_refl 1)) (λ e. rw e zero-le)

-- a set of numbers below m that lacks one
pub count_missing : (m o : ℕ) (S : ℕ → Bool) → o < m → S o ≡ false → count m S < m
count_missing m o S l e = omega (arith, count_plus m o S l e, count_le m (plus S o))

-- ---- the first t members of S, and the others

unfoldable pub first : ℕ → (ℕ → Bool) → ℕ → Bool
first t S i = S i && ltb (count i S) t

unfoldable pub rest : ℕ → (ℕ → Bool) → ℕ → Bool
rest t S i = S i && not (ltb (count i S) t)

pub count_first : (m t : ℕ) (S : ℕ → Bool) → count m (first t S) ≡ min t (count m S)
unfolding sum first
count_first zero t S = omega arith
count_first (suc m) t S =
    let ih = count_first m t S in
    cases (S m)
    (λ e. cases (ltb (count m S) t)
    (λ k. let k2 = ltb-true (count m S) t k in rw (e, k) (omega arith))
    (λ k. let k2 = ltb-false (count m S) t k in rw (e, k) (omega arith)))
    (λ e. rw e (omega arith))

pub first_in : (t : ℕ) (S : ℕ → Bool) (i : ℕ) → first t S i ≡ true → S i ≡ true
unfolding first
first_in t S i h = and_left (S i) (ltb (count i S) t) h

pub rest_in : (t : ℕ) (S : ℕ → Bool) (i : ℕ) → rest t S i ≡ true → S i ≡ true
unfolding rest
rest_in t S i h = and_left (S i) (not (ltb (count i S) t)) h

pub sum_split : (m t : ℕ) (S : ℕ → Bool) (w : ℕ → ℕ)
    → sum_on m S w ≡ sum_on m (first t S) w + sum_on m (rest t S) w
unfolding first rest
sum_split m t S w =
    sum_cong m (λ i h. sym (on_split (S i) (ltb (count i S) t) (w i)))
    ∙ sum_add m (λ i. on (first t S i) (w i)) (λ i. on (rest t S i) (w i))
