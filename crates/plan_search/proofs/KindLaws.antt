-- Laws of the kinds of plans: each cost is so many times the fees and so many times the hauls, the moves are the engine's, the total is that cost, and moves lead to sets of the same facilities.
use Prim.Native.Nat.{ℕ, ◌+◌, ◌*◌, ◌^◌, ◌≤◌, ◌<◌}
use native.Mathlib.Nat.{zero-add, zero-mul, one-mul}
use native.Mathlib.Omega.{arith}
use mathlib.Core.Path.{◌≡◌, refl, sym, ap₂, ◌∙◌}
use mathlib.Core.Bool.{true}
use Rattle.model.specs.Least.{any}
use Rattle.model.specs.Sets.{member}
use Rattle.model.specs.Instance.{Instance, opening_cost, service_cost, total_cost}
use Rattle.model.specs.Search.{Among}
use Rattle.model.specs.Plans.{open_cost, limited_cost}
use Rattle.model.proofs.LeastLaws.{counted_any, any_counted}
use Rattle.model.proofs.NeighbourLaws.{moves_keep, swaps_keep}
use Rattle.record.specs.Records.{amount_end}
use Rattle.engine.specs.Moves.{neighbours_by}
use Rattle.plan_search.specs.Kinds.{cost_by_kind, moves_by, total_by}
use Rattle.plan_search.specs.SheetTables.{most_factor}
use Rattle.plan_search.specs.Terms.{terms_of}
use Rattle.plan_search.specs.declared.PlanKind.{PlanKind}
use Rattle.plan_search.specs.declared.PlanKind.TheVariants.{Open, Limited}

-- ---- what the engine is asked

pub cost_terms : (kind : PlanKind) (I : Instance) (set : ℕ)
    → cost_by_kind kind I set ≡ (terms_of kind).fees * opening_cost I (member set) + (terms_of kind).hauls * service_cost I (member set)
unfolding cost_by_kind terms_of open_cost limited_cost total_cost
cost_terms Open I set = sym (ap₂ ◌+◌ (one-mul (opening_cost I (member set))) (one-mul (service_cost I (member set))))
cost_terms Limited I set =
    sym (ap₂ ◌+◌ (zero-mul (opening_cost I (member set))) (one-mul (service_cost I (member set))) ∙ zero-add (service_cost I (member set)))

pub few_factors : (kind : PlanKind) → ((terms_of kind).fees ≤ most_factor) × ((terms_of kind).hauls ≤ most_factor)
unfolding terms_of
few_factors Open = (omega arith, omega arith)
few_factors Limited = (omega arith, omega arith)

pub moves_terms : (kind : PlanKind) (m : ℕ) → neighbours_by (terms_of kind).moves m ≡ moves_by kind m
unfolding terms_of neighbours_by moves_by
moves_terms Open m = refl
moves_terms Limited m = refl

-- ---- the total is that cost, and fits an amount where both of a set's costs do

pub total_lem : (kind : PlanKind) (I : Instance) (set : ℕ) → cost_by_kind kind I set ≡ total_by kind I set
unfolding total_by cost_by_kind
total_lem Open I set = refl
total_lem Limited I set = refl

pub cost_fits : (kind : PlanKind) (I : Instance) (set : ℕ) → total_cost I (member set) < amount_end → service_cost I (member set) < amount_end
    → cost_by_kind kind I set < amount_end
unfolding cost_by_kind open_cost limited_cost
cost_fits Open I set total service = total
cost_fits Limited I set total service = service

-- ---- moves lead from sets of facilities that are not empty to such sets

pub kind_keeps : (kind : PlanKind) (m set x : ℕ) → (set < 2 ^ m) × (any m (member set) ≡ true) → Among x (moves_by kind m set)
    → (x < 2 ^ m) × (any m (member x) ≡ true)
unfolding moves_by
kind_keeps Open m set x p among = moves_keep m set p.0 x among
kind_keeps Limited m set x p among =
    let s = swaps_keep m set p.0 x among in
    (s.0, any_counted m (member x) (omega (arith, s.1, counted_any m (member set) p.1)))

pub kind_below : (kind : PlanKind) (m set x : ℕ) → set < 2 ^ m → Among x (moves_by kind m set) → x < 2 ^ m
unfolding moves_by
kind_below Open m set x small among = (moves_keep m set small x among).0
kind_below Limited m set x small among = (swaps_keep m set small x among).0
