-- Laws of the moves: a set with its cost, against lists of moves one after the other.
-- Idea: what stands after a list and then another is the best of both in a row, and a loop over moves passes a join of lists.
use Prim.Native.Nat.{ℕ, zero, suc, ◌≤◌, ◌<◌}
use native.Mathlib.Nat.{le_step, lt-suc_self}
use native.Mathlib.Decide.{dec_lt}
use native.Mathlib.Omega.{arith}
use mathlib.Core.Path.{◌≡◌, sym, ap, ◌∙◌}
use mathlib.Core.List.{List, ◌++◌}
use mir.Syntax.{w8, w64}
use mir.Val.{Fits}
use borrow.Author.Tests.{lt-ltb, le-ltb}
use Rattle.model.specs.Loops.{join}
use Rattle.model.specs.Passing.{through}
use Rattle.model.specs.Search.{better, best}
use Rattle.model.proofs.SearchLaws.{best_append}
use Rattle.engine.specs.Moves.{cheaper, priced}
use Rattle.engine.specs.declared.moves.Priced.{Priced}

-- a number of 8 bits is one of 64
pub widens8 : {x : ℕ} → Fits w8 x → Fits w64 x
widens8 h = omega (arith, h)

module _ (cost : ℕ → ℕ) where
  pub set_of : (b : Priced) (x : ℕ) → b ≡ priced cost x → b.set ≡ x
  unfolding priced
  set_of b x e = ap (λ (p : Priced). p.set) e

  pub cost_of : (b : Priced) (x : ℕ) → b ≡ priced cost x → b.cost ≡ cost x
  unfolding priced
  cost_of b x e = ap (λ (p : Priced). p.cost) e

  pub prices : (x k : ℕ) → k ≡ cost x → record { set = x; cost = k } ≡ priced cost x
  unfolding priced
  prices x k e = ap (λ (j : ℕ). record { set = x; cost = j }) e

  -- ---- one set x, of cost k, against b

  module _ (x : ℕ) (b : Priced) (k : ℕ) (right : b ≡ priced cost b.set) (k_is : k ≡ cost x) where
    better_takes : k < b.cost → record { set = x; cost = k } ≡ priced cost (better cost x b.set)
    unfolding better
    better_takes lower =
        let less : cost x < cost b.set = rw (← k_is, ← cost_of b b.set right) lower in
        rw (lt-ltb (cost x) (cost b.set) less) (prices x k k_is)

    better_keeps : b.cost ≤ k → b ≡ priced cost (better cost x b.set)
    unfolding better
    better_keeps no_lower =
        let more : cost b.set ≤ cost x = rw (← k_is, ← cost_of b b.set right) no_lower in
        right ∙ rw (le-ltb (cost x) (cost b.set) more)

    pub cheaper_is_better : cheaper x k b ≡ priced cost (better cost x b.set)
    unfolding cheaper
    cheaper_is_better =
        elim (dec_lt k b.cost) [
          | yes l ↦ rw (lt-ltb k b.cost l) (better_takes l)
          | no g ↦
              let no_lower : b.cost ≤ k = omega arith in
              rw (le-ltb k b.cost no_lower) (better_keeps no_lower)
        ]

  -- ---- lists of moves, one after the other

  pub best_then : (start : ℕ) (xs ys : List ℕ) (b r : Priced) → b ≡ priced cost (best cost start xs)
      → r ≡ priced cost (best cost b.set ys) → r ≡ priced cost (best cost start (xs ++ ys))
  best_then start xs ys b r e h =
      h ∙ ap (λ (x : ℕ). priced cost (best cost x ys)) (set_of b (best cost start xs) e)
      ∙ ap (priced cost) (sym (best_append cost start xs ys))

  pub right_of : (b : Priced) (x : ℕ) → b ≡ priced cost x → b ≡ priced cost b.set
  right_of b x e = e ∙ ap (priced cost) (sym (set_of b x e))

  -- steps that each take the best of a list: together they take the best of the join
  pub through_best : (f : ℕ → Priced → Priced) (g : ℕ → List ℕ) (b : Priced) → b ≡ priced cost b.set → (m : ℕ)
      → ((i : ℕ) → i < m → (x : Priced) → x ≡ priced cost x.set → f i x ≡ priced cost (best cost x.set (g i)))
      → through m f b ≡ priced cost (best cost b.set (join m g))
  unfolding through join best
  through_best f g b right zero h = right
  through_best f g b right (suc m) h =
      let before = through_best f g b right m (λ i l. h i (le_step l)) in
      let here = right_of (through m f b) (best cost b.set (join m g)) before in
      best_then b.set (join m g) (g m) (through m f b) (f m (through m f b)) before (h m (lt-suc_self m) (through m f b) here)
