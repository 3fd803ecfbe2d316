-- The costs of a scaled instance are the plain ones scaled.
use Prim.Native.Nat.{ℕ, ◌*◌}
use native.Mathlib.Omega.{arith}
use mathlib.Core.Path.{◌≡◌, ap, ◌∙◌}
use mathlib.Core.Bool.{Bool}
use Rattle.model.specs.Instance.{Instance, nearest, opening_cost, service_cost}
use Rattle.model.specs.Scaled.{scaled}
use Rattle.model.proofs.SumLaws.{sum_cong, sum_mul, sum_on_mul}
use Rattle.model.proofs.LeastLaws.{least_scaled}

module _ (a b : ℕ) (I : Instance) where
  open I use {facilities as m, clients as n, opening, service, weight}

  pub scaled_opening : (S : ℕ → Bool) → opening_cost (scaled a b I) S ≡ a * opening_cost I S
  unfolding opening_cost
  scaled_opening S = sum_on_mul m a S opening

  scaled_nearest : (S : ℕ → Bool) (j : ℕ) → nearest (scaled a b I) S j ≡ b * nearest I S j
  unfolding nearest
  scaled_nearest S j = least_scaled m b S (λ i. service i j)

  pub scaled_service : (S : ℕ → Bool) → service_cost (scaled a b I) S ≡ b * service_cost I S
  unfolding service_cost
  scaled_service S =
      sum_cong n (λ j l. ap (λ x. weight j * x) (scaled_nearest S j) ∙ turned (weight j) (nearest I S j))
      ∙ sum_mul n b (λ j. weight j * nearest I S j)
    where
      turned : (w x : ℕ) → w * (b * x) ≡ b * (w * x)
      turned w x = omega arith
