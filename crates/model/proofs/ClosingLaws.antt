-- Closing a facility: its clients go to their second facility, the others stay, and its opening cost is saved.
use Prim.Native.Nat.{ℕ, ◌+◌, ◌*◌, ◌≤◌, ◌<◌}
use native.Mathlib.Omega.{arith}
use mathlib.Core.Path.{◌≡◌, sym, ap, ◌∙◌}
use mathlib.Core.Bool.{Bool, true, false, not}
use borrow.Author.Tests.{eq-eqb, not-true}
use lib.Dec.{eqb}
use lib.IntN.{pos, neg_ℤ, ◌+ℤ◌, ◌-ℤ◌, +ℤ_assoc, +ℤ_comm, +ℤ-neg_ℤ_cancel, pos-+ℤ-pos}
use Rattle.model.specs.Loops.{on}
use Rattle.model.specs.Least.{any}
use Rattle.model.specs.Sets.{count, minus}
use Rattle.model.specs.Instance.{Instance, nearest, assigned, service_cost, total_cost}
use Rattle.model.specs.Closing.{others, second, second_cost, cost_at, cost_elsewhere, closing_change}
use Rattle.model.proofs.Bools.{clash, fails, and_left, and_right, Eq?, same, diff, test}
use Rattle.model.proofs.SumLaws.{sum_cong, sum_add}
use Rattle.model.proofs.CountLaws.{count_minus}
use Rattle.model.proofs.TestSetLaws.{minus_in}
use Rattle.model.proofs.LeastLaws.{any_counted, counted_any}
use Rattle.model.proofs.CostLaws.{Assigned, nearest_le, assigned_least, assigned_nearest, opening_minus}

-- ---- "or none where one is open"

-- a set of one facility has no other
pub no_other : (I : Instance) (S : ℕ → Bool) (j : ℕ) → any I.facilities S ≡ true → count I.facilities S ≤ 1
    → any I.facilities (others I S j) ≡ false
no_other I S j some one =
    let a = assigned_least I S j some in
    fails (λ e. omega (arith, counted_any I.facilities (others I S j) e, count_minus I.facilities (assigned I S j) S a.below a.is_in_lem))

module _ (I : Instance) (S : ℕ → Bool) (two : 2 ≤ count I.facilities S) where
  open I use {facilities as m, clients as n, opening, service, weight}

  some : any m S ≡ true
  some = any_counted m S (omega arith)

  -- a set of two or more is not empty without one
  some_left : (f : ℕ) → f < m → S f ≡ true → any m (minus S f) ≡ true
  some_left f l e = any_counted m (minus S f) (omega (arith, count_minus m f S l e))

  pub some_other : (j : ℕ) → any m (others I S j) ≡ true
  some_other j = let a = assigned_least I S j some in some_left (assigned I S j) a.below a.is_in_lem

  -- ---- the second facility

  -- it is the one assigned of the others
  pub second_least : (j : ℕ) → Assigned I (others I S j) j (second I S j)
  unfolding second
  second_least j = assigned_least I (others I S j) j (some_other j)

  -- a facility of S, and not the assigned one
  pub second_in_lem : (j : ℕ) → (second I S j < m) × (S (second I S j) ≡ true) × ¬ (assigned I S j ≡ second I S j)
  second_in_lem j =
      let r = second_least j in
      let first = eqb (assigned I S j) (second I S j) in (
        r.below,
        and_right (not first) (S (second I S j)) r.is_in_lem,
        λ e. clash (eq-eqb (assigned I S j) (second I S j) e) (not-true first (and_left (not first) (S (second I S j)) r.is_in_lem)),
      )

  pub second_cost_lem : (j : ℕ) → service (second I S j) j ≡ second_cost I S j
  unfolding second second_cost
  second_cost_lem j = assigned_nearest I (others I S j) j (some_other j)

  -- ---- without facility f

  module _ (f : ℕ) (l : f < m) (e : S f ≡ true) where
    -- a client of another facility stays
    stays : (j : ℕ) → ¬ (assigned I S j ≡ f) → nearest I (minus S f) j ≡ nearest I S j
    stays j d =
        let a = assigned_least I S j some in
        let b = assigned_least I (minus S f) j (some_left f l e) in
        let kept = nearest_le I (minus S f) (assigned I S j) j a.below (minus_in S f (assigned I S j) (λ q. d (sym q)) a.is_in_lem) in
        let back = a.lowest (assigned I (minus S f) j) b.below (and_right (not (eqb f (assigned I (minus S f) j))) (S (assigned I (minus S f) j)) b.is_in_lem) in
        omega (arith, kept, back, assigned_nearest I S j some, assigned_nearest I (minus S f) j (some_left f l e))

    goes : (j : ℕ) → assigned I S j ≡ f → nearest I (minus S f) j ≡ second_cost I S j
    unfolding second_cost
    goes j q = ap (λ x. nearest I (minus S x) j) (sym q)

    service_without : service_cost I (minus S f) + cost_at I S f ≡ service_cost I S + cost_elsewhere I S f
    unfolding service_cost cost_at cost_elsewhere
    service_without =
        sym (sum_add n (λ j. weight j * nearest I (minus S f) j) (λ j. on (eqb (assigned I S j) f) (weight j * nearest I S j)))
        ∙ sum_cong n (λ j b. at j (eqb (assigned I S j) f) (test (assigned I S j) f))
        ∙ sum_add n (λ j. weight j * nearest I S j) (λ j. on (eqb (assigned I S j) f) (weight j * second_cost I S j))
      where
        at : (j : ℕ) (b : Bool) → Eq? (assigned I S j) f b
            → weight j * nearest I (minus S f) j + on b (weight j * nearest I S j) ≡ weight j * nearest I S j + on b (weight j * second_cost I S j)
        at j true (same q) = rw (goes j q) (omega arith)
        at j false (diff q) = rw (stays j q) (omega arith)

    -- the total cost without f, and what closing it saves, is the total cost with f, and what closing it adds
    pub closed : total_cost I (minus S f) + (opening f + cost_at I S f) ≡ total_cost I S + cost_elsewhere I S f
    unfolding total_cost
    closed = omega (arith, opening_minus I S f l e, service_without)

    -- "It equals the full price of the set without the yard less that of the set."
    pub closing_change_lem : closing_change I S f ≡ pos (total_cost I (minus S f)) -ℤ pos (total_cost I S)
    unfolding closing_change
    closing_change_lem = sym (difference (total_cost I (minus S f)) (total_cost I S) (opening f + cost_at I S f) (cost_elsewhere I S f) closed)
      where
        difference : (x y a b : ℕ) → x + a ≡ y + b → pos x -ℤ pos y ≡ pos b -ℤ pos a
        difference x y a b h =
            ap (λ z. z -ℤ pos y) (
            sym (+ℤ-neg_ℤ_cancel (pos x) (pos a))
            ∙ ap (λ z. z -ℤ pos a) (pos-+ℤ-pos x a ∙ ap pos h ∙ sym (pos-+ℤ-pos y b) ∙ +ℤ_comm (pos y) (pos b)))
            ∙ +ℤ_assoc (pos b +ℤ pos y) (neg_ℤ (pos a)) (neg_ℤ (pos y))
            ∙ ap (λ z. (pos b +ℤ pos y) +ℤ z) (+ℤ_comm (neg_ℤ (pos a)) (neg_ℤ (pos y)))
            ∙ sym (+ℤ_assoc (pos b +ℤ pos y) (neg_ℤ (pos y)) (neg_ℤ (pos a)))
            ∙ ap (λ z. z -ℤ pos a) (+ℤ-neg_ℤ_cancel (pos b) (pos y))
