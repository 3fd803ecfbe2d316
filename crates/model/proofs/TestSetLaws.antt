-- Sets as tests: what is in a set after a member is added, taken out, or one set is taken from another.
use Prim.Native.Nat.{ℕ, ◌+◌, ◌≤◌, ◌<◌}
use native.Mathlib.Omega.{arith}
use mathlib.Core.Path.{◌≡◌, refl, sym, ap, ◌∙◌}
use mathlib.Core.Bool.{Bool, true, false, not, ◌&&◌}
use borrow.Author.Tests.{eqb-true, eq-eqb, ne_eqb, ltb-true, lt-ltb, not-true}
use lib.Dec.{eqb, ltb}
use Rattle.model.specs.Loops.{on, sum}
use Rattle.model.specs.Sets.{count, plus, minus}
use Rattle.model.proofs.Bools.{clash, and_left, and_right, or_left, or_right, or_cases}
use Rattle.model.proofs.SumLaws.{sum_mono, sum_add, on_and_le}

-- ---- a member added or taken out

pub plus_old : (S : ℕ → Bool) (o i : ℕ) → S i ≡ true → plus S o i ≡ true
plus_old S o i e = or_right (eqb o i) (S i) e

pub plus_new : (S : ℕ → Bool) (o i : ℕ) → o ≡ i → plus S o i ≡ true
plus_new S o i e = or_left (eqb o i) (S i) (eq-eqb o i e)

-- to add what is there changes nothing
pub plus_same : (S : ℕ → Bool) (o i : ℕ) → S o ≡ true → plus S o i ≡ true → S i ≡ true
plus_same S o i so h = or_cases (eqb o i) (S i) h (λ q. sym (ap S (eqb-true o i q)) ∙ so) (λ k. k)

pub minus_in : (S : ℕ → Bool) (f i : ℕ) → ¬ (f ≡ i) → S i ≡ true → minus S f i ≡ true
minus_in S f i d e = rw (ne_eqb f i d, e)

-- ---- the numbers of A below m that are not in B

unfoldable pub difference : ℕ → (ℕ → Bool) → (ℕ → Bool) → ℕ → Bool
difference m A B i = ltb i m && (A i && not (B i))

pub in_difference : (m : ℕ) (A B : ℕ → Bool) (i : ℕ) → i < m → A i ≡ true → B i ≡ false → difference m A B i ≡ true
unfolding difference
in_difference m A B i l a b = rw (lt-ltb i m l, a, b)

pub difference_of : (m : ℕ) (A B : ℕ → Bool) (i : ℕ) → difference m A B i ≡ true → (i < m) × (A i ≡ true) × (B i ≡ false)
unfolding difference
difference_of m A B i h =
    let k = and_right (ltb i m) (A i && not (B i)) h in
    (ltb-true i m (and_left (ltb i m) (A i && not (B i)) h), and_left (A i) (not (B i)) k, not-true (B i) (and_right (A i) (not (B i)) k))

pub difference_few : (m : ℕ) (A B : ℕ → Bool) → count m (difference m A B) ≤ count m A
unfolding difference
difference_few m A B = sum_mono m (λ i l. rw (lt-ltb i m l) (on_and_le (A i) (not (B i)) 1))

-- Y without F is no larger than X without Y, where X is in F and no smaller than Y
fresh_point : (f x y : Bool) → (x ≡ true → f ≡ true) → on (y && not f) 1 + on x 1 ≤ on y 1 + on (x && not y) 1
fresh_point true true true h = omega arith
fresh_point true true false h = omega arith
fresh_point true false true h = omega arith
fresh_point true false false h = omega arith
fresh_point false true y h = clash (h refl) refl
fresh_point false false true h = omega arith
fresh_point false false false h = omega arith

pub fresh_count : (m : ℕ) (F X Y : ℕ → Bool) → ((i : ℕ) → X i ≡ true → F i ≡ true) → count m Y ≤ count m X
    → count m (difference m Y F) ≤ count m (difference m X Y)
unfolding difference
fresh_count m F X Y sub h =
    let l : sum m (λ i. on (difference m Y F i) 1 + on (X i) 1) ≤ sum m (λ i. on (Y i) 1 + on (difference m X Y i) 1)
    = sum_mono m (λ i k. rw (lt-ltb i m k) (fresh_point (F i) (X i) (Y i) (sub i))) in
    omega (
      arith,
      sum_add m (λ i. on (difference m Y F i) 1) (λ i. on (X i) 1),
      sum_add m (λ i. on (Y i) 1) (λ i. on (difference m X Y i) 1),
    )
