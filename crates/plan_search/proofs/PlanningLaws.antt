-- The cases of the call that searches: each refusal, and the plan of the set reached; and back, where a plan is made the questions were answered yes.
use Prim.Native.Nat.{ℕ, ◌<◌}
use mathlib.Core.Path.{◌≡◌, refl, sym, ap, ap₂, subst, ◌∙◌}
use mathlib.Core.Bool.{Bool, true, false}
use mathlib.Core.List.{List}
use lib.ListN.{length}
use Rattle.model.specs.Sets.{member}
use Rattle.model.specs.Limit.{Outcome}
use Rattle.model.specs.Answers.{Answer, accepted, refused}
use Rattle.model.proofs.AnswerLaws.{same_result, asked, passed_first}
use Rattle.record.specs.Records.{splice, amount_end}
use Rattle.questions.specs.Sheet.{yards, farm_byte, instance_by, instance_of}
use Rattle.questions.specs.Reading.{counts, reading}
use Rattle.questions.proofs.AcceptedLaws.{instance_is, accepts, shape_of, door, facilities_read}
use Rattle.questions.proofs.CostBounds.{total_fits, service_fits}
use Rattle.plan_area.specs.declared.plan.Total.TheVariants.{Given}
use Rattle.plan_area.specs.Plan.{plan_bytes, question9, writing}
use Rattle.price.specs.Pricing.{area_after}
use Rattle.price.proofs.PricingLaws.{writes_of}
use Rattle.starts.specs.Starts.{start_refusal}
use Rattle.plan_search.specs.Kinds.{cost_by_kind, total_by, outcome_by}
use Rattle.plan_search.specs.Planning.{SearchPlan, search_plan, search_planning, told, searched_answer, search_answer, plan_left}
use Rattle.plan_search.specs.Terms.{plan_on}
use Rattle.plan_search.specs.declared.PlanKind.{PlanKind}
use Rattle.starts.specs.declared.PlanStart.{PlanStart}
use Rattle.std.specs.Prelude.{Result}
use Rattle.refusal.specs.declared.Refusal.{Refusal}
use Rattle.plan_search.specs.declared.Searched.{Searched}
use Rattle.starts.proofs.StartLaws.{start_passed, start_refused, start_asked}
use Rattle.plan_search.proofs.KindLaws.{total_lem, cost_fits}

-- ---- what a call answers and leaves

-- its number, and the area as it was
pub refuses : (outcome : Answer SearchPlan) (area : List ℕ) (k : ℕ) → outcome ≡ refused k
    → (refused k ≡ search_answer outcome) × (area ≡ area_after (plan_left outcome) area)
unfolding search_answer plan_left area_after
refuses outcome area k e = rw e (refl, refl)

-- by another name for its outcome
pub as_outcome : {outcome other : Answer SearchPlan} → other ≡ outcome → (r : Result Searched Refusal) (area next : List ℕ)
    → (searched_answer r ≡ search_answer other) × (next ≡ area_after (plan_left other) area)
    → (searched_answer r ≡ search_answer outcome) × (next ≡ area_after (plan_left outcome) area)
as_outcome e r area next h = subst (λ o. (searched_answer r ≡ search_answer o) × (next ≡ area_after (plan_left o) area)) e h

-- the writer, given where a search ended, leaves the plan of its set
module _ (kind : PlanKind) (s : List ℕ) (m n : ℕ) (e : reading s ≡ accepted (counts m n)) (set cost : ℕ)
    (costs : cost ≡ cost_by_kind kind (instance_by s m n) set) where
  pub cost_small : cost < amount_end
  cost_small =
      let same = instance_is (accepts s m n e).has in
      rw costs (cost_fits kind (instance_by s m n) set
      (rw same (total_fits (instance_of s) (door s m n e) (member set))) (rw same (service_fits (instance_of s) (door s m n e) (member set))))

  pub writes_end : (area next : List ℕ) (bytes moves : ℕ) → question9 m n (length area) ≡ true
      → bytes ≡ length (writing s m n set (Given cost) moves (length area))
      → next ≡ splice area 0 (writing s m n set (Given cost) moves (length area))
      → (r : Outcome) → r.set ≡ set → r.steps ≡ moves → (stopped : Bool) → r.stopped ≡ stopped
      → (accepted (told stopped set bytes moves) ≡ search_answer (plan_on kind s m n r))
      × (next ≡ area_after (plan_left (plan_on kind s m n r)) area)
  unfolding plan_on search_plan search_answer plan_left area_after
  writes_end area next bytes moves q long put r set_is moves_are stopped stop =
      let is = writes_of s m n set (Given cost) moves (length area) (shape_of (accepts s m n e).has) q
      ∙ ap (λ (x : ℕ). plan_bytes (instance_by s m n) (farm_byte s m) set x moves) (costs ∙ total_lem kind (instance_by s m n) set) in
      rw (set_is, moves_are, stop) (
        ap (λ (k : ℕ). accepted (told stopped set k moves)) (long ∙ ap length is),
        put ∙ ap (splice area 0) is,
      )

-- ---- the cases

module _ (kind : PlanKind) (start : PlanStart) (limit : ℕ) (s : List ℕ) (room : ℕ) where
  pub unread : (number : ℕ) → reading s ≡ refused number → search_planning kind start limit s room ≡ refused number
  unfolding search_planning
  unread number e = rw e

  module _ (m n : ℕ) (e : reading s ≡ accepted (counts m n)) where
    pub bad_start : (start_refusal start m ≡ 0 → ⊥) → search_planning kind start limit s room ≡ refused (start_refusal start m)
    unfolding search_planning
    bad_start h = rw e (start_refused m _ start h)

    pub no_room : start_refusal start m ≡ 0 → question9 m n room ≡ false → search_planning kind start limit s room ≡ refused 9
    unfolding search_planning
    no_room passed h = rw (e, start_passed m _ start passed, h)

    -- all questions are answered yes
    pub makes : start_refusal start m ≡ 0 → question9 m n room ≡ true
        → search_planning kind start limit s room
        ≡ accepted (search_plan (instance_of s) (farm_byte s (yards s)) (total_by kind (instance_of s)) (outcome_by kind start limit (instance_of s)))
    unfolding search_planning
    makes passed h = rw (e, start_passed m _ start passed, h)

    pub planned : start_refusal start m ≡ 0 → question9 m n room ≡ true
        → search_planning kind start limit s room ≡ plan_on kind s m n (outcome_by kind start limit (instance_by s m n))
    unfolding plan_on
    planned passed h = let form = (accepts s m n e).has in
        makes passed h
        ∙ ap₂ (λ I b. accepted (search_plan I b (total_by kind I) (outcome_by kind start limit I))) (sym (instance_is form)) (ap (farm_byte s) form.yards_are)

-- ---- and back

-- the sheet was accepted, the start passed its question and the area question 9, and this is the plan
pub record Passed (kind : PlanKind) (start : PlanStart) (limit : ℕ) (s : List ℕ) (room : ℕ) (p : SearchPlan) : Type 0 where
  pub m : ℕ
  pub n : ℕ
  pub read : reading s ≡ accepted (counts m n)
  pub start_good : start_refusal start m ≡ 0
  pub fits : question9 m n room ≡ true
  pub made : search_planning kind start limit s room ≡ accepted p
  pub is : p ≡ search_plan (instance_of s) (farm_byte s (yards s)) (total_by kind (instance_of s)) (outcome_by kind start limit (instance_of s))

pub planned_when : (kind : PlanKind) (start : PlanStart) (limit : ℕ) (s : List ℕ) (room : ℕ) (p : SearchPlan)
    → search_planning kind start limit s room ≡ accepted p → Passed kind start limit s room p
unfolding search_planning
planned_when kind start limit s room p h =
    let r = passed_first (reading s) _ p h in
    let c = r.0 in
    let begun = start_asked c.yards _ start p r.2 in
    let q9 = asked (question9 c.yards c.farms room) 9 _ p begun.1 in
    record { m = c.yards; n = c.farms; read = r.1; start_good = begun.0; fits = q9.0; made = h; is = sym (same_result q9.1) }

module _ {kind : PlanKind} {start : PlanStart} {limit : ℕ} {s : List ℕ} {room : ℕ} {p : SearchPlan} (passed : Passed kind start limit s room p) where
  -- what the plan is of: the outcome's set, stopped as it was
  pub set_reached : p.set ≡ (outcome_by kind start limit (instance_of s)).set
  unfolding search_plan
  set_reached = ap (λ (q : SearchPlan). q.set) passed.is

  pub stopped_as : p.stopped ≡ (outcome_by kind start limit (instance_of s)).stopped
  unfolding search_plan
  stopped_as = ap (λ (q : SearchPlan). q.stopped) passed.is

  -- the sheet's own instance has the yards that reading counts
  pub passed_start : start_refusal start (instance_of s).facilities ≡ 0
  passed_start = rw (facilities_read s passed.m passed.n passed.read) passed.start_good
