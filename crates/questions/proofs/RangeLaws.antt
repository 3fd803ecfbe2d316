-- What chains over the indices below n answer: `all` that each passes a test, `position` how many pass before the first that does not.
use Prim.Native.Nat.{ℕ, zero, suc, ◌-◌, ◌≤◌, ◌<◌}
use native.Mathlib.Nat.{le_step, lt-suc_self}
use native.Mathlib.Numerals.{add-one}
use native.Mathlib.Omega.{arith}
use mathlib.Core.Path.{◌≡◌, refl, sym, subst}
use mathlib.Core.Bool.{Bool, true, false, not}
use mathlib.Core.List.{List}
use denote.Param.Members.{Mut}
use lib.ListN.{length, get_or}
use Rattle.std.specs.Prelude.{Option, Some, None}
use Rattle.std.specs.declared.ops.Range.{Range}
use Rattle.std.specs.Bool.{MatchBool}
use Rattle.std.specs.Fn.{Called}
use Rattle.std.specs.Iterator.{YieldsThen}
use Rattle.std.specs.List.{FoldsTo, range_with_len, AllWithin, HoldsAt}
use Rattle.std.specs.Option.{MatchOption, unwrap_or}
use Rattle.std.proofs.iter.Yields.{nat_range_steps}
use Rattle.std.proofs.lemmas.Iterator.{cases_from_all, IsFirst-from_position, YieldsList-from_range}
use Rattle.std.proofs.lemmas.List.FromFn.{length-range_with_len, get_or-range_with_len}
use Rattle.model.specs.Loops.{all_below, leading}
use Rattle.model.proofs.LoopLaws.{all_from, all_stops, leading_none, leading_more, leading_stops}

-- the indices below n
abbrev indices : ℕ → List ℕ
indices n = range_with_len 0 (n - 0)

how_many : (n : ℕ) → length (indices n) ≡ n
how_many n = omega (arith, length-range_with_len 0 (n - 0))

-- index k of them is k
read : (n : ℕ) (Q : ℕ → Type 0) (k : ℕ) → k < n → Q (get_or (indices n) k 0) → Q k
read n Q k l = subst Q (omega (arith, get_or-range_with_len 0 (n - 0) k 0 (omega arith)))

-- where the first i all pass, the run is as long
leads : (p : ℕ → Bool) (i : ℕ) → ((k : ℕ) → k < i → p k ≡ true) → leading i p ≡ i
leads p zero h = leading_none p
leads p (suc i) h = rw (← add-one) (leading_more p i (leads p i (λ k l. h k (le_step l))) (h i (lt-suc_self i)))

module _ (n : ℕ) (p : ℕ → Bool) where
  abbrev Passes : ℕ → Type 0
  Passes k = k < n → p k ≡ true

  abbrev Fails : ℕ → Type 0
  Fails k = k < n → p k ≡ false

  passed : (i : ℕ) → i ≤ n → AllWithin Passes (indices n) 0 i → (k : ℕ) → k < i → p k ≡ true
  passed i m h k l = read n Passes k (omega arith) (h k 0 (omega arith) l) (omega arith)

  failed : (i : ℕ) → i < n → HoldsAt Fails (indices n) i → p i ≡ false
  failed i l h = read n Fails i l (h 0) l

  module _ {F : Type 0} {g : Mut F (ℕ × Unit {0}) Bool} {u : Range ℕ} {f : F} where
    -- `(0..n).all(..)`, by its clause `ran` and what the closure answers at an index: whether p holds of it
    pub all_in_range : (r : Bool) → (xs : List ℕ) × (o : Option ℕ) × (j : F) × YieldsThen nat_range_steps (record { start = 0; end = n }) xs o u
        × FoldsTo (λ q x t. Called g q (x, tt) true t) f xs j × MatchOption o (r ≡ true) (λ x. (r ≡ false) × ((h : F) × Called g j (x, tt) false h))
        → ((x : ℕ) (b : Bool) (q : F) → Called g f (x, tt) b q → (q ≡ f) × (x < n → b ≡ p x)) → r ≡ all_below n p
    all_in_range r ran told =
        by r
        (cases_from_all u f r Passes Fails ran (YieldsList-from_range 0 n _ refl refl) (λ x q k. ((told x true q k).0, λ l. sym ((told x true q k).1 l)))
        (λ x q k l. sym ((told x false q k).1 l)))
      where
        by : (b : Bool) → MatchBool b (AllWithin Passes (indices n) 0 (length (indices n))) ((k : ℕ) × (k < length (indices n)) × HoldsAt Fails (indices n) k) → b ≡ all_below n p
        by true h = sym (all_from p n (passed n (omega arith) (subst (AllWithin Passes (indices n) 0) (how_many n) h)))
        by false h = let l : h.0 < n = omega (arith, how_many n, h.1) in sym (all_stops p n h.0 l (failed h.0 l h.2))

    -- `(0..n).position(..).unwrap_or(n)`, where the closure answers whether p fails
    pub leading_in_range : (r : Option ℕ) → (xs : List ℕ) × (o : Option ℕ) × (j : F) × YieldsThen nat_range_steps (record { start = 0; end = n }) xs o u
        × FoldsTo (λ q x t. Called g q (x, tt) false t) f xs j × MatchOption o (r ≡ None) (λ x. (r ≡ Some (length xs)) × ((h : F) × Called g j (x, tt) true h))
        → ((x : ℕ) (b : Bool) (q : F) → Called g f (x, tt) b q → (q ≡ f) × (x < n → not b ≡ p x)) → unwrap_or r n ≡ leading n p
    leading_in_range r ran told =
        by r
        (IsFirst-from_position u f r Fails Passes ran (YieldsList-from_range 0 n _ refl refl) (λ x q k l. sym ((told x true q k).1 l))
        (λ x q k. ((told x false q k).0, λ l. sym ((told x false q k).1 l))))
      where
        by : (o : Option ℕ) → MatchOption o (AllWithin Passes (indices n) 0 (length (indices n)))
            (λ i. (i < length (indices n)) × HoldsAt Fails (indices n) i × AllWithin Passes (indices n) 0 i) → unwrap_or o n ≡ leading n p
        by None h = sym (leads p n (passed n (omega arith) (subst (AllWithin Passes (indices n) 0) (how_many n) h)))
        by (Some i) h = let l : i < n = omega (arith, how_many n, h.0) in
            sym (leading_stops p n i (leads p i (passed i (omega arith) h.2)) l (failed i l h.1))
