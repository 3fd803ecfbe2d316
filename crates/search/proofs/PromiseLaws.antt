-- What the two plans promise follows from their equations: the set read off the area is the one that the search ended in, which has the
-- yards asked for, which no move lowers and which the theorems of local search bound beside every rival. And each farm is sent to its
-- nearest yard of that set.
use Prim.Native.Nat.{ℕ, ◌≤◌}
use native.Mathlib.Omega.{arith}
use mathlib.Core.Path.{◌≡◌, refl, ap, ◌∙◌}
use mathlib.Core.Bool.{true}
use mathlib.Core.List.{List}
use lib.ListN.{length}
use Rattle.model.specs.Least.{any}
use Rattle.model.specs.Neighbours.{swaps, add_drop_swap}
use Rattle.model.specs.Plans.{open_cost, open_start, open_search, limited_cost, limited_start, limited_search}
use Rattle.model.proofs.CountLaws.{count_some}
use Rattle.model.proofs.LeastLaws.{arg_least, any_counted}
use Rattle.model.proofs.SearchLaws.{search_ends}
use Rattle.model.proofs.PlanLaws.{open_plan_keeps, limited_plan_keeps}
use Rattle.bounds.proofs.Searches.{open_plan_bound, open_plan_thrice, limited_plan_bound}
use Rattle.model.specs.Answers.{accepted}
use Rattle.questions.specs.Sheet.{yards, farm_byte, instance_of, instance_by}
use Rattle.questions.specs.Reading.{counts, reading}
use Rattle.questions.proofs.AcceptedLaws.{WithinBounds, door, facilities_are, facilities_read}
use Rattle.refusal.specs.Numbers.{number_of, answer_of}
use Rattle.price.specs.Pricing.{Plan, answer, area_after, OfPlan}
use Rattle.std.specs.Prelude.{Result}
use Rattle.refusal.specs.declared.Refusal.{Refusal}
use Rattle.price.specs.declared.Written.{Written}
use Rattle.price.proofs.OfPlanLaws.{PlanOf, of_plan}
use Rattle.plan_area.proofs.PlanFarmLaws.{FarmsSent, farms_sent}
use Rattle.search.specs.SearchEnds.{settled_at, open_end, limited_end, plan_of}
use Rattle.search.specs.Planning.{open_plan, limited_plan, open_planning, limited_planning}
use Rattle.search.specs.Promises.{OfSize, LimitedPlanSized, NoOpenMove, OpenPlanSettled, NoLimitedMove, LimitedPlanSettled, BoundedByRivals, OpenPlanBounded, BoundedByRivalsOf, LimitedPlanBounded}
use Rattle.search.proofs.PlanningLaws.{open_when, limited_when}

-- ---- the sets that the searches end in

module _ (s : List ℕ) (w : WithinBounds (instance_of s)) where
  open_set : PlanOf (open_search (instance_of s) (open_start (instance_of s))).set (open_plan (instance_of s) (farm_byte s (yards s)))
  unfolding open_plan plan_of open_end settled_at
  open_set =
      record {
        instance = instance_of s;
        byte3 = farm_byte s (yards s);
        total = _;
        moves = _;
        is = refl;
        few = w.few_facilities;
        small = (open_plan_keeps (instance_of s) w.some_facilities).0;
      }

  limited_set : (k : ℕ) → k ≤ (instance_of s).facilities → PlanOf (limited_search (instance_of s) (limited_start k)).set (limited_plan (instance_of s) (farm_byte s (yards s)) k)
  unfolding limited_plan plan_of limited_end settled_at
  limited_set k within =
      record {
        instance = instance_of s;
        byte3 = farm_byte s (yards s);
        total = _;
        moves = _;
        is = refl;
        few = w.few_facilities;
        small = (limited_plan_keeps (instance_of s) k within).0;
      }

  limited_size : (k : ℕ) → k ≤ (instance_of s).facilities → OfSize s k (limited_search (instance_of s) (limited_start k)).set
  limited_size k within = rw (← facilities_are s) (limited_plan_keeps (instance_of s) k within).1

  open_no_lower : NoOpenMove s (open_search (instance_of s) (open_start (instance_of s))).set
  unfolding open_search instance_of instance_by
  open_no_lower = (search_ends (open_cost (instance_of s)) (add_drop_swap (yards s)) (open_start (instance_of s))).no_lower

  limited_no_lower : (k : ℕ) → NoLimitedMove s (limited_search (instance_of s) (limited_start k)).set
  unfolding limited_search instance_of instance_by
  limited_no_lower k = (search_ends (limited_cost (instance_of s)) (swaps (yards s)) (limited_start k)).no_lower

  -- each factor is that of the theorem
  open_within : BoundedByRivals s (open_search (instance_of s) (open_start (instance_of s))).set
  open_within rival some =
      let some_rival : any (instance_of s).facilities rival ≡ true = rw (facilities_are s) some in
      let b = open_plan_bound (instance_of s) w.is_metric w.some_facilities rival some_rival in
      record {
        hauls = b.service;
        fees = b.opening;
        total = open_plan_thrice (instance_of s) w.is_metric w.some_facilities rival some_rival;
      }

  limited_within : (k : ℕ) → k ≤ (instance_of s).facilities → BoundedByRivalsOf s k (limited_search (instance_of s) (limited_start k)).set
  limited_within k within rival some few =
      let a = arg_least (yards s) rival (λ i. 0) some in
      limited_plan_bound (instance_of s) w.is_metric k within rival
      (rw (facilities_are s) (count_some (yards s) _ rival a.below a.is_in_lem)) (rw (facilities_are s) few)

-- ---- the plans that the calls make are those of the sets that the searches end in

-- k is no more than the yards of the sheet
few_of_sheet : (s : List ℕ) (m n k : ℕ) → reading s ≡ accepted (counts m n) → k ≤ m → k ≤ (instance_of s).facilities
few_of_sheet s m n k e h = rw (facilities_read s m n e) h

pub open_plan_of : (s : List ℕ) (room : ℕ) (p : Plan) → open_planning s room ≡ accepted p
    → PlanOf (open_search (instance_of s) (open_start (instance_of s))).set p
open_plan_of s room p e = let h = open_when s room p e in rw h.3 (open_set s (door s h.0 h.1 h.2))

pub limited_plan_of : (s : List ℕ) (k room : ℕ) (p : Plan) → limited_planning s k room ≡ accepted p
    → PlanOf (limited_search (instance_of s) (limited_start k)).set p
limited_plan_of s k room p e = let h = limited_when s k room p e in
    rw h.4 (limited_set s (door s h.0 h.1 h.2) k (few_of_sheet s h.0 h.1 k h.2 h.3.1))

-- ---- the promises of the calls

module _ (s : List ℕ) (r : Result Written Refusal) (area next : List ℕ) where
  module _ (says : answer_of r ≡ answer (open_planning s (length area))) (leaves : next ≡ area_after (open_planning s (length area)) area) where
    -- what holds of the set that the search ends in, and of the area with its plan
    open_of : (P : ℕ → Type 0)
        → (WithinBounds (instance_of s) → next ≡ area_after (accepted (open_plan (instance_of s) (farm_byte s (yards s)))) area → P (open_search (instance_of s) (open_start (instance_of s))).set)
        → OfPlan r next P
    open_of P holds =
        of_plan number_of (open_planning s (length area)) r area next says leaves P
        (λ p e. let h = open_when s (length area) p e in
        let there = leaves ∙ ap (λ o. area_after o area) (e ∙ ap accepted h.3) in
        (_, open_plan_of s (length area) p e, holds (door s h.0 h.1 h.2) there))

    pub open_settled : OpenPlanSettled s r next
    open_settled = open_of (NoOpenMove s) (λ w there. open_no_lower s w)

    pub open_bounded : OpenPlanBounded s r next
    open_bounded = open_of (BoundedByRivals s) (λ w there. open_within s w)

    pub open_sends : OfPlan r next (FarmsSent s next)
    unfolding area_after open_plan plan_of open_end settled_at
    open_sends =
        open_of (FarmsSent s next) (λ w there. farms_sent s w _ _ _ (open_plan_keeps (instance_of s) w.some_facilities).1 area next there)

  module _ (k : ℕ) (says : answer_of r ≡ answer (limited_planning s k (length area)))
      (leaves : next ≡ area_after (limited_planning s k (length area)) area) where
    limited_of : (P : ℕ → Type 0)
        → (WithinBounds (instance_of s) → 1 ≤ k → k ≤ (instance_of s).facilities → next ≡ area_after (accepted (limited_plan (instance_of s) (farm_byte s (yards s)) k)) area
        → P (limited_search (instance_of s) (limited_start k)).set) → OfPlan r next P
    limited_of P holds =
        of_plan number_of (limited_planning s k (length area)) r area next says leaves P
        (λ p e. let h = limited_when s k (length area) p e in
        let few = few_of_sheet s h.0 h.1 k h.2 h.3.1 in
        let there = leaves ∙ ap (λ o. area_after o area) (e ∙ ap accepted h.4) in
        (_, limited_plan_of s k (length area) p e, holds (door s h.0 h.1 h.2) h.3.0 few there))

    pub limited_sized : LimitedPlanSized s k r next
    limited_sized = limited_of (OfSize s k) (λ w some few there. limited_size s w k few)

    pub limited_settled : LimitedPlanSettled s r next
    limited_settled = limited_of (NoLimitedMove s) (λ w some few there. limited_no_lower s w k)

    pub limited_bounded : LimitedPlanBounded s k r next
    limited_bounded = limited_of (BoundedByRivalsOf s k) (λ w some few there. limited_within s w k few)

    pub limited_sends : OfPlan r next (FarmsSent s next)
    unfolding area_after limited_plan plan_of limited_end settled_at
    limited_sends =
        limited_of (FarmsSent s next)
        (λ w some few there. farms_sent s w _ _ _
        (any_counted (instance_of s).facilities _ (omega (arith, (limited_plan_keeps (instance_of s) k few).1))) area next there)

  -- all that the calls promise, from their two equations
  pub open_promises : (answer_of r ≡ answer (open_planning s (length area))) × (next ≡ area_after (open_planning s (length area)) area)
      → (answer_of r ≡ answer (open_planning s (length area))) × ((next ≡ area_after (open_planning s (length area)) area)
      × (OpenPlanSettled s r next × OpenPlanBounded s r next))
  open_promises h = (h.0, (h.1, (open_settled h.0 h.1, open_bounded h.0 h.1)))

  pub limited_promises : (k : ℕ)
      → (answer_of r ≡ answer (limited_planning s k (length area))) × (next ≡ area_after (limited_planning s k (length area)) area)
      → (answer_of r ≡ answer (limited_planning s k (length area))) × ((next ≡ area_after (limited_planning s k (length area)) area)
      × (LimitedPlanSized s k r next × (LimitedPlanSettled s r next × LimitedPlanBounded s k r next)))
  limited_promises k h = (h.0, (h.1, (limited_sized k h.0 h.1, (limited_settled k h.0 h.1, limited_bounded k h.0 h.1))))
