-- The two plans are searches without a limit on moves, the open plan from the single cheapest yard and the limited one from the first k; and how large
-- their costs and counts of moves are.
use Prim.Native.Nat.{ℕ, ◌^◌, ◌≤◌, ◌<◌}
use native.Mathlib.Nat.{le_refl}
use native.Mathlib.Omega.{arith}
use mathlib.Core.Path.{◌≡◌, refl, sym, ap, ◌∙◌}
use mathlib.Core.Bool.{true}
use mathlib.Core.List.{List}
use Rattle.model.specs.Sets.{member}
use Rattle.model.specs.Search.{search}
use Rattle.model.specs.Plans.{open_cost, open_start, open_search, limited_cost, limited_search}
use Rattle.model.proofs.SearchLaws.{search_ends}
use Rattle.model.specs.Answers.{Answer, accepted, refused}
use Rattle.model.proofs.AnswerLaws.{same_result, asked, passed_first}
use Rattle.questions.specs.Sheet.{yards, farm_byte, instance_by, instance_of}
use Rattle.questions.specs.Reading.{counts, reading}
use Rattle.questions.proofs.AcceptedLaws.{instance_is, accepts, door}
use Rattle.questions.proofs.CostBounds.{total_fits, service_fits}
use Rattle.plan_area.specs.Plan.{question9}
use Rattle.refusal.specs.Numbers.{answer_of}
use Rattle.price.specs.declared.Written.{Written}
use Rattle.price.specs.Pricing.{Plan, answer, area_after}
use Rattle.engine.specs.Bounds.{no_limit}
use Rattle.starts.specs.Starts.{start_by, ask_start}
use Rattle.starts.specs.Starts as starts
use Rattle.starts.proofs.StartLaws as starts_laws
use Rattle.plan_search.specs.Kinds.{cost_by_kind, moves_by, total_by}
use Rattle.plan_search.specs.Planning.{SearchPlan, search_planning, searched_answer, search_answer, plan_left}
use Rattle.plan_search.specs.declared.PlanKind.TheVariants.{Open, Limited}
use Rattle.starts.specs.declared.PlanStart.TheVariants.{Cheapest, First}
use Rattle.std.specs.Prelude.{Result}
use Rattle.refusal.specs.declared.Refusal.{Refusal}
use Rattle.plan_search.specs.declared.Searched.{Searched}
use Rattle.plan_search.proofs.UnlimitedLaws.{unlimited}
use Rattle.search.specs.SearchEnds.{Settled, settled_at, open_end, limited_end, plan_of}
use Rattle.search.specs.Planning.{open_plan, limited_plan, question7, open_planning, limited_planning}
use Rattle.search.specs.Written.{written_answer}

-- ---- without a limit on moves the plan left is that of document 01

module _ (s : List ℕ) (room : ℕ) where
  pub open_planning_lem : plan_left (search_planning Open Cheapest no_limit s room) ≡ open_planning s room
  unfolding open_planning open_plan plan_of open_end settled_at open_search open_start ask_start start_by cost_by_kind moves_by total_by
  open_planning_lem = unlimited Open Cheapest no_limit (le_refl no_limit) s room

  pub limited_planning_lem : (k : ℕ) → plan_left (search_planning Limited (First k) no_limit s room) ≡ limited_planning s k room
  unfolding limited_planning limited_plan question7 starts.question7 plan_of limited_end settled_at limited_search ask_start start_by cost_by_kind moves_by total_by
  limited_planning_lem k = unlimited Limited (First k) no_limit (le_refl no_limit) s room

-- ---- so the calls answer and leave what it says

written_answer_lem : (o : Answer SearchPlan) → written_answer (search_answer o) ≡ answer (plan_left o)
unfolding search_answer answer plan_left
written_answer_lem (accepted p) = refl
written_answer_lem (refused k) = refl

module _ (o : Answer SearchPlan) (p : Answer Plan) (same : plan_left o ≡ p) (searched : Result Searched Refusal) (r : Result Written Refusal) (area next : List ℕ) where
  pub as_planned : searched_answer searched ≡ search_answer o → next ≡ area_after (plan_left o) area
      → answer_of r ≡ written_answer (searched_answer searched) → (answer_of r ≡ answer p) × (next ≡ area_after p area)
  as_planned told left says = (
    says ∙ ap written_answer told ∙ written_answer_lem o ∙ ap answer same,
    left ∙ ap (λ q. area_after q area) same,
  )

-- ---- how large they are

-- cost and moves of what a search settled on are at most the start's cost, so they fit an amount
module _ (cost : ℕ → ℕ) (neighbours : ℕ → List ℕ) (start : ℕ) (r : Settled) (e : r ≡ settled_at cost (search cost neighbours start)) where
  small_by : cost start < 2 ^ 32 → (r.cost < 2 ^ 32) × (r.moves < 2 ^ 32)
  unfolding settled_at
  small_by small =
      let end = search_ends cost neighbours start in
      rw e (omega (arith, end.few_steps), omega (arith, end.few_steps))

module _ (s : List ℕ) (m n : ℕ) (r : Settled) (e : reading s ≡ accepted (counts m n)) where
  open_total : (set : ℕ) → open_cost (instance_by s m n) set < 2 ^ 32
  unfolding open_cost
  open_total set = rw (instance_is (accepts s m n e).has) (total_fits (instance_of s) (door s m n e) (member set))

  limited_total : (set : ℕ) → limited_cost (instance_by s m n) set < 2 ^ 32
  unfolding limited_cost
  limited_total set = rw (instance_is (accepts s m n e).has) (service_fits (instance_of s) (door s m n e) (member set))

  pub open_small : r ≡ open_end (instance_by s m n) → (r.cost < 2 ^ 32) × (r.moves < 2 ^ 32)
  unfolding open_end open_search
  open_small h = small_by _ _ _ r h (open_total _)

  pub limited_small : (k : ℕ) → r ≡ limited_end (instance_by s m n) k → (r.cost < 2 ^ 32) × (r.moves < 2 ^ 32)
  unfolding limited_end limited_search
  limited_small k h = small_by _ _ _ r h (limited_total _)

-- ---- and back: where a plan is made, the sheet was accepted and the questions were answered yes

k_within : (m k : ℕ) → question7 m k ≡ true → (1 ≤ k) × (k ≤ m)
unfolding question7 starts.question7
k_within m k h = starts_laws.k_within m k h

pub open_when : (s : List ℕ) (room : ℕ) (p : Plan) → open_planning s room ≡ accepted p
    → (m : ℕ) × (n : ℕ) × (reading s ≡ accepted (counts m n)) × (p ≡ open_plan (instance_of s) (farm_byte s (yards s)))
unfolding open_planning
open_when s room p h =
    let r = passed_first (reading s) _ p h in
    let c = r.0 in
    let q = asked (question9 c.yards c.farms room) 9 _ p r.2 in
    (c.yards, c.farms, r.1, sym (same_result q.1))

pub limited_when : (s : List ℕ) (k room : ℕ) (p : Plan) → limited_planning s k room ≡ accepted p
    → (m : ℕ) × (n : ℕ) × (reading s ≡ accepted (counts m n)) × ((1 ≤ k) × (k ≤ m)) × (p ≡ limited_plan (instance_of s) (farm_byte s (yards s)) k)
unfolding limited_planning
limited_when s k room p h =
    let r = passed_first (reading s) _ p h in
    let c = r.0 in
    let q7 = asked (question7 c.yards k) 7 _ p r.2 in
    let q9 = asked (question9 c.yards c.farms room) 9 _ p q7.1 in
    (c.yards, c.farms, r.1, k_within c.yards k q7.0, sym (same_result q9.1))
