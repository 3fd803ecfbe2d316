-- Laws of costs on a sheet: the sums that the loops over yards and farms compute are those of the sheet's instance.
use Prim.Native.Nat.{ℕ, ◌*◌, ◌≤◌}
use native.Mathlib.Omega.{arith}
use mathlib.Core.Path.{◌≡◌, refl}
use mathlib.Core.Bool.{Bool}
use mathlib.Core.List.{List}
use Rattle.model.specs.Loops.{on, sum}
use Rattle.model.specs.Instance.{nearest, opening_cost, service_cost}
use Rattle.model.proofs.SumLaws.{Summed}
use Rattle.questions.specs.Sheet.{fee, farm_byte, loads_of, instance_by}

-- terms that are 0 need no turn
pub summed_same : (f : ℕ → ℕ) (total i k : ℕ) → i ≤ k → sum k f ≡ sum i f → Summed f total i → Summed f total k
summed_same f total i k up same h = record { exact = rw same h.exact; small = omega (arith, h.small) }

module _ (s : List ℕ) (m n : ℕ) where
  pub fees_sum : (S : ℕ → Bool) → sum m (λ i. on (S i) (fee s i)) ≡ opening_cost (instance_by s m n) S
  unfolding opening_cost instance_by
  fees_sum S = refl

  pub hauls_sum : (S : ℕ → Bool) → sum n (λ j. loads_of (farm_byte s m j) * nearest (instance_by s m n) S j) ≡ service_cost (instance_by s m n) S
  unfolding service_cost instance_by
  hauls_sum S = refl
