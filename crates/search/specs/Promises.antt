-- What a buyer looks for in a plan, in readable words: that a limited list has the number of yards asked for, that no move is left
-- which lowers its cost, and demand 3 of the letter. All are said of the set that is read off the records of kind 4F in the area at
-- exit (`OfPlan`); both buyers are priced by the costs of the sheet's instance, never by the printed total.
use Rattle.std.specs.Prelude.{ℕ, ◌+◌, ◌*◌, ◌≤◌, ◌≡◌, Bool, true, List, Result}
use Rattle.model.specs.Least.{any}
use Rattle.model.specs.Sets.{count, member}
use Rattle.model.specs.Instance.{Instance, opening_cost, service_cost, total_cost}
use Rattle.model.specs.Neighbours.{swaps, add_drop_swap}
use Rattle.model.specs.Search.{NoLower}
use Rattle.model.specs.Plans.{open_cost, limited_cost}
use Rattle.questions.specs.Sheet.{yards, instance_of}
use Rattle.price.specs.Pricing.{OfPlan}
use Rattle.refusal.specs.declared.Refusal.{Refusal}
use Rattle.price.specs.declared.Written.{Written}

-- ---- "the limited list, for a set number of yards"

-- the set has k yards
abbrev pub OfSize : List ℕ → ℕ → ℕ → Type 0
OfSize s k set = count (yards s) (member set) ≡ k

abbrev pub LimitedPlanSized : List ℕ → ℕ → Result Written Refusal → List ℕ → Type 0
LimitedPlanSized s k r area = OfPlan r area (OfSize s k)

-- ---- "no move left that lowers it" (demand 2)

-- no set that one add, drop or swap makes of it has a lower full cost
abbrev pub NoOpenMove : List ℕ → ℕ → Type 0
NoOpenMove s set = NoLower (open_cost (instance_of s)) (add_drop_swap (yards s) set) set

abbrev pub OpenPlanSettled : List ℕ → Result Written Refusal → List ℕ → Type 0
OpenPlanSettled s r area = OfPlan r area (NoOpenMove s)

-- no set that one swap makes of it has a lower haul cost
abbrev pub NoLimitedMove : List ℕ → ℕ → Type 0
NoLimitedMove s set = NoLower (limited_cost (instance_of s)) (swaps (yards s) set) set

abbrev pub LimitedPlanSettled : List ℕ → Result Written Refusal → List ℕ → Type 0
LimitedPlanSettled s r area = OfPlan r area (NoLimitedMove s)

-- ---- demand 3

-- an open list's hauls, fees and total beside those of a rival's set
pub record OpenBound (I : Instance) (ours rival : ℕ → Bool) : Type 0 where
  pub hauls : service_cost I ours ≤ opening_cost I rival + service_cost I rival
  pub fees : opening_cost I ours ≤ opening_cost I rival + 2 * service_cost I rival
  pub total : total_cost I ours ≤ 3 * total_cost I rival

-- "Whatever non-empty set of the sheet's yards that is."
abbrev pub BoundedByRivals : List ℕ → ℕ → Type 0
BoundedByRivals s set = (rival : ℕ → Bool) → any (yards s) rival ≡ true → OpenBound (instance_of s) (member set) rival

abbrev pub OpenPlanBounded : List ℕ → Result Written Refusal → List ℕ → Type 0
OpenPlanBounded s r area = OfPlan r area (BoundedByRivals s)

-- "Whatever non-empty set of at most k yards the rival rents, the hauls of our limited list for that k are at most five times the
-- rival's."
abbrev pub BoundedByRivalsOf : List ℕ → ℕ → ℕ → Type 0
BoundedByRivalsOf s k set =
    (rival : ℕ → Bool) → any (yards s) rival ≡ true → count (yards s) rival ≤ k
    → service_cost (instance_of s) (member set) ≤ 5 * service_cost (instance_of s) rival

abbrev pub LimitedPlanBounded : List ℕ → ℕ → Result Written Refusal → List ℕ → Type 0
LimitedPlanBounded s k r area = OfPlan r area (BoundedByRivalsOf s k)
