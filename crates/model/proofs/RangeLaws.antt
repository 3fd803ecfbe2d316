-- Laws of chains over a range or over the front of a list: `all`, `sum` and how many, as what loops compute.
use Prim.Native.Nat.{ℕ, zero, suc, ◌+◌, ◌≤◌, ◌<◌}
use native.Mathlib.Numerals.{add-one}
use native.Mathlib.Omega.{arith}
use mathlib.Core.Path.{◌≡◌, refl, sym, ap, ◌∙◌}
use mathlib.Core.Logic.{◌↔◌}
use mathlib.Core.Bool.{Bool, true, false, cond, ◌&&◌}
use mathlib.Core.List.{List}
use mir.Val.{bool_byte}
use lib.ListN.{length, get_or, take}
use Rattle.std.specs.Bool.{IsTrue}
use Rattle.std.specs.List.{AllPass, list_all, sum_by, count_by, range_with_len}
use Rattle.std.proofs.lemmas.List.{take_all}
use Rattle.std.proofs.lemmas.List.Folds.{list_all_more}
use Rattle.std.proofs.lemmas.List.FromFn.{length-range_with_len, get_or-range_with_len}
use Rattle.std.proofs.lemmas.List.Sums.{sum_by_more, AllPass-from_list_all, list_all-from_AllPass}
use Rattle.model.specs.Loops.{on, all_below, sum}
use Rattle.model.specs.Sets.{count}
use Rattle.model.proofs.Bools.{same_test}
use Rattle.model.proofs.LoopLaws.{all_cong}
use Rattle.model.proofs.SumLaws.{sum_cong}

-- an answer that says whether each element passes
pub all_told : {X : Type 0} (p : X → Bool) (xs : List X) {r : Bool} → (IsTrue r ↔ AllPass p xs) → r ≡ list_all p xs
all_told p xs h = same_test (λ e. list_all-from_AllPass p xs (h.0 e)) (λ e. h.1 (AllPass-from_list_all p xs e))

-- a sum of tests, each as 0 or 1
pub sum_tests : {X : Type 0} (p : X → Bool) (xs : List X) → sum_by (λ x. bool_byte (p x)) xs ≡ count_by p xs
sum_tests p xs = λ i. sum_by (λ x. one (p x) i) xs
  where
    one : (b : Bool) → bool_byte b ≡ cond b 1 0
    one true = refl
    one false = refl

-- ---- the first n elements of a list, of which d would stand behind the last

pub all_front : {X : Type 0} (p : X → Bool) (d : X) (xs : List X) (n : ℕ) → n ≤ length xs → list_all p (take n xs) ≡ all_below n (λ i. p (get_or xs i d))
unfolding all_below
all_front p d xs zero h = refl
all_front p d xs (suc n) h =
    ap (λ (k : ℕ). list_all p (take k xs)) (sym (add-one n)) ∙ list_all_more p xs n d h ∙ ap (λ (b : Bool). b && p (get_or xs n d)) (all_front p d xs n (omega arith))

pub sum_front : {X : Type 0} (f : X → ℕ) (d : X) (xs : List X) (n : ℕ) → n ≤ length xs → sum_by f (take n xs) ≡ sum n (λ i. f (get_or xs i d))
unfolding sum
sum_front f d xs zero h = refl
sum_front f d xs (suc n) h =
    ap (λ (k : ℕ). sum_by f (take k xs)) (sym (add-one n)) ∙ sum_by_more f xs n d h ∙ ap (λ (s : ℕ). s + f (get_or xs n d)) (sum_front f d xs n (omega arith))

pub count_front : {X : Type 0} (p : X → Bool) (d : X) (xs : List X) (n : ℕ) → n ≤ length xs → count_by p (take n xs) ≡ count n (λ i. p (get_or xs i d))
count_front p d xs n h = sum_front (λ x. cond (p x) 1 0) d xs n h ∙ sum_cong n (λ i l. one (p (get_or xs i d)))
  where
    one : (b : Bool) → cond b 1 0 ≡ on b 1
    one true = refl
    one false = refl

-- ---- the numbers below n

module _ (n : ℕ) where
  whole : take n (range_with_len 0 n) ≡ range_with_len 0 n
  whole = take_all n (range_with_len 0 n) (omega (arith, length-range_with_len 0 n))

  place : (i : ℕ) → i < n → get_or (range_with_len 0 n) i 0 ≡ i
  place i l = omega (arith, get_or-range_with_len 0 n i 0 l)

  long : n ≤ length (range_with_len 0 n)
  long = omega (arith, length-range_with_len 0 n)

  pub all_range : (p : ℕ → Bool) → list_all p (range_with_len 0 n) ≡ all_below n p
  all_range p = ap (list_all p) (sym whole) ∙ all_front p 0 (range_with_len 0 n) n long ∙ all_cong n (λ i. p (get_or (range_with_len 0 n) i 0)) p (λ i l. ap p (place i l))

  pub sum_range : (f : ℕ → ℕ) → sum_by f (range_with_len 0 n) ≡ sum n f
  sum_range f = ap (sum_by f) (sym whole) ∙ sum_front f 0 (range_with_len 0 n) n long ∙ sum_cong n (λ i l. ap f (place i l))
