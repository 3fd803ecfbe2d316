-- Gaps: what a loop over the numbers computes does not change where none of them is in the set.
use Prim.Native.Nat.{ℕ, zero, suc, ◌≤◌, ◌<◌}
use native.Mathlib.Nat.{le_step, lt-suc_self, eq-or-lt_of_le, le_of_suc-le-suc}
use native.Mathlib.Omega.{arith}
use mathlib.Core.Path.{◌≡◌, ap, ◌∙◌}
use mathlib.Core.Logic.{inl, inr}
use mathlib.Core.Bool.{Bool, false}
use Rattle.model.specs.Least.{least, arg}

-- no number from i up to k is in S
abbrev pub NoneFrom : (ℕ → Bool) → ℕ → ℕ → Type 0
NoneFrom S i k = (j : ℕ) → i ≤ j → j < k → S j ≡ false

-- whatever a number that is not in S leaves as it is
pub gap : {A : Type 0} (S : ℕ → Bool) (f : ℕ → A) → ((j : ℕ) → S j ≡ false → f (suc j) ≡ f j)
    → (i k : ℕ) → i ≤ k → NoneFrom S i k → f k ≡ f i
gap S f same i zero h none = ap f (omega arith)
gap S f same i (suc k) h none =
    elim (eq-or-lt_of_le h) [
      | inl e ↦ ap f (omega arith)
      | inr l ↦
          let below : i ≤ k = le_of_suc-le-suc l in
          same k (none k below (lt-suc_self k)) ∙ gap S f same i k below (λ j a b. none j a (le_step b))
    ]

module _ (S : ℕ → Bool) (i k : ℕ) (h : i ≤ k) (none : NoneFrom S i k) where
  pub least_gap : (v : ℕ → ℕ) → least k S v ≡ least i S v
  unfolding least
  least_gap v = gap S (λ j. least j S v) (λ j e. rw e) i k h none

  pub arg_gap : (v : ℕ → ℕ) → arg k S v ≡ arg i S v
  unfolding arg
  arg_gap v = gap S (λ j. arg j S v) (λ j e. rw e) i k h none
