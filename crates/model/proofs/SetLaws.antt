-- Laws of sets that are numbers: what `with` and `without` do to members and counts, and that a set is what its members say.
-- Idea: member i + 1 of a set is member i of its half; `with` and `without` at i + 1 act on the half and keep the last bit.
use Prim.Native.Nat.{ℕ, zero, suc, ◌-◌, ◌*◌, ◌/◌, ◌%◌, ◌^◌, ◌≤◌, ◌<◌}
use native.Mathlib.Nat.{le_refl, one-mul, sub-le, mod-lt, div-one, zero-div, pow-succ', div-div-eq-div-mul, mod-eq_of_lt}
use native.Mathlib.Numerals.{one-add}
use native.Mathlib.Omega.{arith}
use native.Mathlib.Decide.{dec_lt}
use mathlib.Core.Path.{◌≡◌, refl, sym, ap, ◌∙◌}
use mathlib.Core.Bool.{Bool, true, false, not, ◌&&◌, or-false}
use borrow.Author.Tests.{eqb-true, eqb-false, eq-eqb, lt-ltb}
use lib.Dec.{eqb, ltb, leb-suc-suc, leb-suc-zero, eqb-suc-suc, eqb-zero-suc, eqb-suc-zero}
use lib.Pow.{pow_pos, pow_mono, mod-pow-add, shl_exact}
use Rattle.model.specs.Loops.{on, sum}
use Rattle.model.specs.Least.{any, arg}
use Rattle.model.specs.Sets.{count, plus, minus, trade, member, with, without}
use Rattle.model.proofs.Bools.{cases, or_left, eqb_self}
use Rattle.model.proofs.CountLaws.{count_zero, count_cong, count_under, count_plus, count_minus}
use Rattle.model.proofs.LeastLaws.{any_of, any_counted, arg_least}

-- ---- the last bit, and the half

pub member_zero : (set : ℕ) → member set 0 ≡ eqb (set % 2) 1
unfolding member
member_zero set = ap (λ (q : ℕ). eqb (q % 2) 1) (div-one set)

pub member_suc : (set i : ℕ) → member set (suc i) ≡ member (set / 2) i
unfolding member
member_suc set i =
    ap (λ (q : ℕ). eqb (q % 2) 1) (ap (λ (p : ℕ). set / p) (pow-succ' 2 i) ∙ sym (div-div-eq-div-mul set 2 (2 ^ i)))

-- a set is at least the bit of each member
pub member_le : (set i : ℕ) → member set i ≡ true → 2 ^ i ≤ set
member_le set zero e = let one = eqb-true (set % 2) 1 (sym (member_zero set) ∙ e) in omega arith
member_le set (suc i) e = omega (arith, member_le (set / 2) i (sym (member_suc set i) ∙ e), pow-succ' 2 i)

-- the half and the last bit after a change: at i + 1, and at 0
with_half : (set i : ℕ) → (with set (suc i) / 2 ≡ with (set / 2) i) × (with set (suc i) % 2 ≡ set % 2)
unfolding with
with_half set i =
    cases (member (set / 2) i)
    (λ e. rw (member_suc set i, e) (omega arith))
    (λ e. rw (member_suc set i, e, pow-succ' 2 i) (omega arith))

without_half : (set i : ℕ) → (without set (suc i) / 2 ≡ without (set / 2) i) × (without set (suc i) % 2 ≡ set % 2)
unfolding without
without_half set i =
    cases (member (set / 2) i)
    (λ e. let room = member_le (set / 2) i e in rw (member_suc set i, e, pow-succ' 2 i) (omega arith))
    (λ e. rw (member_suc set i, e) (omega arith))

with_last : (set : ℕ) → (with set 0 / 2 ≡ set / 2) × (with set 0 % 2 ≡ 1)
unfolding with
with_last set =
    cases (eqb (set % 2) 1)
    (λ e. let one = eqb-true (set % 2) 1 e in rw (member_zero set, e) (omega arith))
    (λ e. let none = eqb-false (set % 2) 1 e in rw (member_zero set, e) (omega arith))

without_last : (set : ℕ) → (without set 0 / 2 ≡ set / 2) × (without set 0 % 2 ≡ 0)
unfolding without
without_last set =
    cases (eqb (set % 2) 1)
    (λ e. let one = eqb-true (set % 2) 1 e in rw (member_zero set, e) (omega arith))
    (λ e. let none = eqb-false (set % 2) 1 e in rw (member_zero set, e) (omega arith))

-- ---- the members after a change

pub member_with : (set i j : ℕ) → member (with set i) j ≡ plus (member set) i j
member_with set zero zero = rw (member_zero (with set 0), (with_last set).1)
member_with set zero (suc j) =
    rw (member_suc (with set 0) j, (with_last set).0, member_suc set j, eqb-zero-suc j)
member_with set (suc i) zero =
    rw (member_zero (with set (suc i)), (with_half set i).1, member_zero set, eqb-suc-zero i)
member_with set (suc i) (suc j) =
    rw (member_suc (with set (suc i)) j, (with_half set i).0, member_suc set j, eqb-suc-suc i j) (member_with (set / 2) i j)

pub member_without : (set i j : ℕ) → member (without set i) j ≡ minus (member set) i j
member_without set zero zero = rw (member_zero (without set 0), (without_last set).1)
member_without set zero (suc j) =
    rw (member_suc (without set 0) j, (without_last set).0, member_suc set j, eqb-zero-suc j)
member_without set (suc i) zero =
    rw (member_zero (without set (suc i)), (without_half set i).1, member_zero set, eqb-suc-zero i)
member_without set (suc i) (suc j) =
    rw (member_suc (without set (suc i)) j, (without_half set i).0, member_suc set j, eqb-suc-suc i j) (member_without (set / 2) i j)

pub member_trade : (set f o j : ℕ) → member (with (without set f) o) j ≡ trade (member set) f o j
member_trade set f o j = rw (member_with (without set f) o j, member_without set f j)

pub with_some : (m set i : ℕ) → i < m → any m (member (with set i)) ≡ true
with_some m set i l = any_of m i (member (with set i)) l (member_with set i i ∙ or_left (eqb i i) (member set i) (eqb_self i))

-- ---- sets of numbers below m are the numbers below 2 ^ m

pub member_below : (m set i : ℕ) → set < 2 ^ m → member set i ≡ true → i < m
member_below m set i small e =
    elim (dec_lt i m) [
      | yes l ↦ l
      | no g ↦ absurd (omega (arith, member_le set i e, pow_mono {i = m} {j = i} (omega arith)))
    ]

-- and back: a set of w bits without a member from m on is below 2 ^ m
pub below_pow : (w m set : ℕ) → set < 2 ^ w → ((i : ℕ) → m ≤ i → member set i ≡ false) → set < 2 ^ m
below_pow zero m set small none = omega (arith, pow_pos m)
below_pow (suc w) zero set small none =
    let half = below_pow w zero (set / 2) (omega (arith, pow-succ' 2 w)) (λ i l. sym (member_suc set i) ∙ none (suc i) (omega arith)) in
    let even = eqb-false (set % 2) 1 (sym (member_zero set) ∙ none 0 (omega arith)) in
    omega (arith, mod-lt set {m = 2} (omega arith))
below_pow (suc w) (suc m) set small none =
    let half = below_pow w m (set / 2) (omega (arith, pow-succ' 2 w)) (λ i l. sym (member_suc set i) ∙ none (suc i) (omega arith)) in
    omega (arith, pow-succ' 2 m)

pub with_below : (m set i : ℕ) → set < 2 ^ m → i < m → with set i < 2 ^ m
with_below zero set i small l = absurd (omega arith)
with_below (suc m) set zero small l = omega (arith, with_last set, pow-succ' 2 m)
with_below (suc m) set (suc i) small l =
    omega (arith, with_half set i, pow-succ' 2 m, with_below m (set / 2) i (omega (arith, pow-succ' 2 m)) (omega arith))

pub without_le : (set i : ℕ) → without set i ≤ set
unfolding without
without_le set i = cases (member set i) (λ e. rw e (sub-le set (2 ^ i))) (λ e. rw e (le_refl set))

-- ---- counts

pub count_with : (m set i : ℕ) → i < m → member set i ≡ false → count m (member (with set i)) ≡ suc (count m (member set))
count_with m set i l e =
    count_cong m (member (with set i)) (plus (member set) i) (λ j k. member_with set i j) ∙ count_plus m i (member set) l e

pub count_without : (m set i : ℕ) → i < m → member set i ≡ true → suc (count m (member (without set i))) ≡ count m (member set)
count_without m set i l e =
    ap suc (count_cong m (member (without set i)) (minus (member set) i) (λ j k. member_without set i j))
    ∙ count_minus m i (member set) l e

pub count_trade : (m set f o : ℕ) → f < m → o < m → member set f ≡ true → member set o ≡ false
    → count m (member (with (without set f) o)) ≡ count m (member set)
count_trade m set f o lf lo ef eo =
    count_with m (without set f) o lo (member_without set f o ∙ shut (eqb f o)) ∙ count_without m set f lf ef
  where
    shut : (b : Bool) → not b && member set o ≡ false
    shut true = refl
    shut false = eo

-- ---- a set is what its members say

-- p where the bit q is 1, as a product
bit_times : (q p : ℕ) → q < 2 → on (eqb q 1) p ≡ q * p
bit_times zero p h = omega arith
bit_times (suc zero) p h = omega arith
bit_times (suc (suc q)) p h = absurd (omega arith)

-- the members below m make up the last m bits
sum_bits : (m set : ℕ) → sum m (λ i. on (member set i) (2 ^ i)) ≡ set % 2 ^ m
unfolding sum member
sum_bits zero set = omega arith
sum_bits (suc m) set =
    let bit = bit_times (set / 2 ^ m % 2) (2 ^ m) (mod-lt (set / 2 ^ m) {m = 2} (omega arith)) in
    let bits = mod-pow-add set 1 m in
    rw (← one-add m) (omega (arith, sum_bits m set))

pub member_sum : (m set : ℕ) → set < 2 ^ m → sum m (λ i. on (member set i) (2 ^ i)) ≡ set
member_sum m set small = sum_bits m set ∙ mod-eq_of_lt small

pub some_member : (m set : ℕ) → set < 2 ^ m → 0 < set → any m (member set) ≡ true
some_member m set small some =
    elim (dec_lt 0 (count m (member set))) [
      | yes l ↦ any_counted m (member set) l
      | no g ↦ absurd (omega (arith, member_sum m set small, count_zero m (member set) (λ i. 2 ^ i) (omega arith)))
    ]

pub member_some : (m set : ℕ) → any m (member set) ≡ true → 0 < set
member_some m set some =
    let r = arg_least m (member set) (λ i. 0) some in
    omega (arith, member_le set _ r.is_in_lem, pow_pos (arg m (member set) (λ i. 0)))

-- ---- the set of one number, and that of the first k

member_none : (i : ℕ) → member 0 i ≡ false
unfolding member
member_none i = ap (λ (q : ℕ). eqb (q % 2) 1) (zero-div (2 ^ i))

pub with_none : (i : ℕ) → with 0 i ≡ 2 ^ i
unfolding with
with_none i = rw (member_none i) (omega arith)

pub member_single : (i j : ℕ) → member (2 ^ i) j ≡ eqb i j
member_single i j = rw (← with_none i, member_with 0 i j, member_none j) (or-false (eqb i j))

pub member_ones : (k i : ℕ) → member (2 ^ k - 1) i ≡ ltb i k
member_ones zero i = member_none i ∙ sym (leb-suc-zero i)
member_ones (suc k) zero =
    member_zero (2 ^ suc k - 1) ∙ eq-eqb ((2 ^ suc k - 1) % 2) 1 (omega (arith, pow-succ' 2 k, pow_pos k))
    ∙ sym (lt-ltb 0 (suc k) (omega arith))
member_ones (suc k) (suc i) =
    let half : (2 ^ suc k - 1) / 2 ≡ 2 ^ k - 1 = omega (arith, pow-succ' 2 k, pow_pos k) in
    rw (member_suc (2 ^ suc k - 1) i, half, leb-suc-suc (suc i) k) (member_ones k i)

pub count_ones : (m k : ℕ) → k ≤ m → count m (member (2 ^ k - 1)) ≡ k
count_ones m k l = count_cong m (member (2 ^ k - 1)) (λ i. ltb i k) (λ i h. member_ones k i) ∙ count_under m k ∙ omega arith

-- ---- the bit that a shift of 1 makes, in a number of w bits

pub one_shl : (w i : ℕ) → i < w → (1 * 2 ^ i) % 2 ^ w ≡ 2 ^ i
one_shl w i below = shl_exact {a = 1} 1 i w (omega arith) (omega arith) ∙ one-mul (2 ^ i)
