-- Laws of a table some columns of which are changed: what a turn of the loop does, and what stands at each place.
use Rattle.std.proofs.Common.{◌≡◌, ℕ, zero, suc, ◌+◌, ◌<◌, ◌≤◌, List, length, get_or, set, sym, refl, ap, ◌∙◌, not-suc-le-zero, arith, length-set, get_or-set_other, get_or-set_same}
use Rattle.model.specs.Passing.{through}
use Rattle.model.proofs.PassingLaws.{through_more}
use Rattle.model.proofs.LoopLaws.{up_to}
use Rattle.rows.specs.Shifts.{change_at, changed, FrontHolds}

-- ---- a turn

pub front_more : (f : ℕ → ℕ) (i x : ℕ) (table : List ℕ) → i < length table → x ≡ f i → FrontHolds i f table → FrontHolds (i + 1) f (set table i x)
front_more f i x table room is done k l =
    up_to (λ k. get_or (set table i x) k 0 ≡ f k) i
    (λ k l. get_or-set_other table i k x 0 (λ q. omega arith) ∙ done k l)
    (get_or-set_same table i x 0 room ∙ is) k (omega arith)

pub change_more : (f : ℕ → ℕ → ℕ) (at i x : ℕ) (before table : List ℕ) → table ≡ through i (change_at f at) before → x ≡ f i (get_or table (at + i) 0)
    → set table (at + i) x ≡ through (i + 1) (change_at f at) before
unfolding change_at
change_more f at i x before table done is =
    ap (set table (at + i)) is ∙ ap (change_at f at i) done ∙ sym (through_more (change_at f at) before i)

-- ---- place by place

module _ (f : ℕ → ℕ → ℕ) (at : ℕ) (table : List ℕ) where
  some_length : (n : ℕ) → length (through n (change_at f at) table) ≡ length table
  unfolding through change_at
  some_length zero = refl
  some_length (suc n) = length-set (through n (change_at f at) table) (at + n) _ ∙ some_length n

  some_outside : (n k : ℕ) → ((i : ℕ) → i < n → ¬ (k ≡ at + i)) → get_or (through n (change_at f at) table) k 0 ≡ get_or table k 0
  unfolding through change_at
  some_outside zero k out = refl
  some_outside (suc n) k out =
      get_or-set_other (through n (change_at f at) table) (at + n) k _ 0 (out n (omega arith)) ∙ some_outside n k (λ i l. out i (omega arith))

  some_inside : (n i : ℕ) → at + n ≤ length table → i < n → get_or (through n (change_at f at) table) (at + i) 0 ≡ f i (get_or table (at + i) 0)
  unfolding through change_at
  some_inside zero i room l = absurd (not-suc-le-zero l)
  some_inside (suc n) i room l =
      up_to (λ i. get_or (through (suc n) (change_at f at) table) (at + i) 0 ≡ f i (get_or table (at + i) 0)) n
      (λ i l. get_or-set_other (through n (change_at f at) table) (at + n) (at + i) _ 0 (λ q. omega arith) ∙ some_inside n i (omega arith) l)
      (get_or-set_same (through n (change_at f at) table) (at + n) _ 0 (omega (arith, some_length n))
      ∙ ap (f n) (some_outside n (at + n) (λ i l q. omega arith)))
      i (omega arith)

  pub changed_length : length (changed f at table) ≡ length table
  unfolding changed
  changed_length = some_length 32

  pub changed_below : (k : ℕ) → k < at → get_or (changed f at table) k 0 ≡ get_or table k 0
  unfolding changed
  changed_below k l = some_outside 32 k (λ i below q. omega arith)

  pub changed_above : (k : ℕ) → at + 32 ≤ k → get_or (changed f at table) k 0 ≡ get_or table k 0
  unfolding changed
  changed_above k l = some_outside 32 k (λ i below q. omega arith)

  pub changed_inside : (i : ℕ) → at + 32 ≤ length table → i < 32 → get_or (changed f at table) (at + i) 0 ≡ f i (get_or table (at + i) 0)
  unfolding changed
  changed_inside i room l = some_inside 32 i room l
