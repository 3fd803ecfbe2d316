-- A farm's nearest and second yard: on its stretch they are those of the sheet's instance.
use Prim.Native.Nat.{ℕ, ◌≤◌, ◌<◌}
use native.Mathlib.Omega.{arith}
use mathlib.Core.Path.{◌≡◌, refl, ap, ◌∙◌}
use mathlib.Core.Bool.{Bool}
use mathlib.Core.List.{List}
use Rattle.model.specs.Least.{any}
use Rattle.model.specs.Sets.{member, minus}
use Rattle.model.specs.Instance.{nearest, assigned}
use Rattle.model.specs.Closing.{others, second, second_cost}
use Rattle.model.proofs.CostLaws.{assigned_le, same_nearest, same_assigned}
use Rattle.sets.specs.Members.{rising_below, listed}
use Rattle.sets.proofs.ListedLaws.{listed_rising}
use Rattle.record.specs.declared.Record.{Record}
use Rattle.record.specs.Records.{amount_at}
use Rattle.questions.specs.Bounds.{most_yards}
use Rattle.questions.specs.Sheet.{fee, haul, instance_by}
use Rattle.questions.specs.Shape.{Shape}
use Rattle.stretch.specs.Stretch.{stretch}
use Rattle.stretch.proofs.FarmLaws.{stretch_length, stretch_record}
use Rattle.nearest.specs.Nearest.{yards_on, one_farm, nearest_in, nearest_on, second_in, second_on}
use Rattle.nearest.proofs.ChoiceLaws.{near_cong}

module _ (s : List ℕ) (m n p : ℕ) (f : Shape s m n) (below : p < n) where
  -- the yards that have records on the sheet and on the stretch are the sheet's
  all_yards : yards_on s (stretch s m p) ≡ m
  all_yards = omega (arith, stretch_length s m n p f below, f.room)

  -- the nearest of the listed yards is that of the set
  pub farm_listed : (set : ℕ) (hauls yards : List ℕ) → hauls ≡ stretch s m p → yards ≡ rising_below m set
      → nearest_in s hauls (listed yards) ≡ nearest_on s hauls set
  farm_listed set hauls yards e e' =
      near_cong s hauls (listed yards) (member set)
      (λ i l. ap (λ (xs : List ℕ). listed xs i) e' ∙ listed_rising set i m (omega (arith, ap (yards_on s) e, all_yards)))

  haul_on : (i : ℕ) → i < yards_on s (stretch s m p) → amount_at (stretch s m p) i ≡ haul s m i p
  unfolding amount_at haul
  haul_on i l = ap (λ (r : Record). r.amount) (stretch_record s m n p f below i (rw all_yards at l))

  module _ (S : ℕ → Bool) where
    pub farm_haul : (nearest_in s (stretch s m p) S).haul ≡ nearest (instance_by s m n) S p
    unfolding nearest_in one_farm instance_by
    farm_haul = same_nearest (one_farm s (stretch s m p)) (instance_by s m n) S 0 p all_yards haul_on

    pub farm_yard : (nearest_in s (stretch s m p) S).yard ≡ assigned (instance_by s m n) S p
    unfolding nearest_in one_farm instance_by amount_at fee
    farm_yard = same_assigned (one_farm s (stretch s m p)) (instance_by s m n) S 0 p all_yards haul_on (λ i l. refl)

    pub farm_found : (nearest_in s (stretch s m p) S).found ≡ any m S
    unfolding nearest_in
    farm_found = ap (λ (k : ℕ). any k S) all_yards

    pub farm_yard_small : (nearest_in s (stretch s m p) S).yard ≤ most_yards
    unfolding instance_by
    farm_yard_small = omega (arith, farm_yard, assigned_le (instance_by s m n) S p, f.few_yards)

  -- the second yard
  pub farm_second : (set : ℕ) → second_on s (stretch s m p) set ≡ second_in (instance_by s m n) (member set) p
  unfolding second_on second second_cost nearest_in one_farm instance_by
  farm_second set =
      let hauls = stretch s m p in
      let others_are = ap (λ a. nearest_in s hauls (minus (member set) a)) (farm_yard (member set)) in
      let T = others (instance_by s m n) (member set) p in
      others_are ∙ rw (farm_found T, farm_yard T, farm_haul T)
