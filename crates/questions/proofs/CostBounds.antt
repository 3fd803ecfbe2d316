-- On an accepted sheet every set's costs fit the four bytes of an amount.
use Prim.Native.Nat.{ℕ, ◌*◌, ◌≤◌, ◌<◌}
use native.Mathlib.Nat.{le_trans, mul-le-mul, mul-le-mul_right}
use native.Mathlib.Omega.{arith}
use mathlib.Core.Bool.{Bool}
use Rattle.model.specs.Loops.{on}
use Rattle.model.specs.Instance.{Instance, nearest, opening_cost, service_cost, total_cost}
use Rattle.model.proofs.SumLaws.{sum_bound, on_le}
use Rattle.model.proofs.LeastLaws.{least_bound}
use Rattle.record.specs.Records.{amount_end}
use Rattle.questions.specs.Bounds.{most_yards, most_farms, most_loads, most_fee, most_haul}
use Rattle.questions.proofs.AcceptedLaws.{WithinBounds}

module _ (I : Instance) (w : WithinBounds I) (S : ℕ → Bool) where
  pub nearest_within : (j : ℕ) → j < I.clients → nearest I S j ≤ most_haul
  unfolding nearest
  nearest_within j l = least_bound I.facilities most_haul S (λ i. I.service i j) (λ i k. w.service_within i j k l)

  opening_small : opening_cost I S ≤ most_yards * most_fee
  unfolding opening_cost
  opening_small =
      le_trans
      (sum_bound I.facilities most_fee (λ i. on (S i) (I.opening i)) (λ i l. le_trans (on_le (S i) (I.opening i)) (w.opening_within_lem i l)))
      (mul-le-mul_right most_fee w.few_facilities)

  service_small : service_cost I S ≤ most_farms * (most_loads * most_haul)
  unfolding service_cost
  service_small =
      le_trans
      (sum_bound I.clients (most_loads * most_haul) (λ j. I.weight j * nearest I S j) (λ j l. mul-le-mul (w.weight_within j l) (nearest_within j l)))
      (mul-le-mul_right (most_loads * most_haul) w.few_clients)

  -- 32 fees of 50,000,000 and 128 farms' 20 loads at 1,000,000: 4,160,000,000 at most
  pub total_fits : total_cost I S < amount_end
  unfolding total_cost
  total_fits = omega (arith, opening_small, service_small)

  pub service_fits : service_cost I S < amount_end
  service_fits = omega (arith, service_small)
