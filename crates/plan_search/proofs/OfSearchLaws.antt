-- What is promised of the set in the area: it follows from what holds of the set that the search reached.
use Prim.Native.Nat.{ℕ}
use mathlib.Core.Path.{◌≡◌, refl, sym, ap, ap₂, subst, ◌∙◌}
use mathlib.Core.Bool.{true, false}
use mathlib.Core.List.{List}
use lib.ListN.{length}
use Rattle.model.specs.Answers.{Answer, accepted, refused}
use Rattle.model.proofs.AnswerLaws.{same_result, not_both}
use Rattle.questions.specs.Sheet.{yards, farm_byte, instance_of}
use Rattle.questions.proofs.AcceptedLaws.{door}
use Rattle.plan_area.specs.Plan.{plan_set}
use Rattle.price.specs.Pricing.{area_after}
use Rattle.price.proofs.OfPlanLaws.{PlanOf, set_read_off}
use Rattle.plan_search.specs.Planning.{SearchPlan, search_plan, search_planning, Told, told, searched_answer, search_answer, plan_left, OfSettled, OfStopped}
use Rattle.plan_search.specs.declared.PlanKind.{PlanKind}
use Rattle.starts.specs.declared.PlanStart.{PlanStart}
use Rattle.std.specs.Prelude.{Result}
use Rattle.refusal.specs.declared.Refusal.{Refusal}
use Rattle.plan_search.specs.declared.Searched.{Searched}
use Rattle.plan_search.proofs.OutcomeLaws.{outcome_keeps}
use Rattle.plan_search.proofs.PlanningLaws.{Passed, planned_when, passed_start}

-- a call that tells a set, bytes and moves made a plan of them
answered : (outcome : Answer SearchPlan) (t : Told) → accepted t ≡ search_answer outcome
    → (p : SearchPlan) × (outcome ≡ accepted p) × (t ≡ told p.stopped p.set (length p.plan.bytes) p.plan.moves)
unfolding search_answer
answered (accepted p) t h = (p, refl, same_result h)
answered (refused k) t h = absurd (not_both h)

module _ (kind : PlanKind) (start : PlanStart) (limit : ℕ) (s : List ℕ) (room : ℕ) (p : SearchPlan) (made : search_planning kind start limit s room ≡ accepted p) where
  passed : Passed kind start limit s room p
  passed = planned_when kind start limit s room p made

  -- its plan is that of the set told
  pub plan_of_set : PlanOf p.set p.plan
  unfolding search_plan
  plan_of_set =
      let w = door s passed.m passed.n passed.read in
      subst (λ (q : SearchPlan). PlanOf q.set q.plan) (sym passed.is)
      (record {
        instance = instance_of s;
        byte3 = farm_byte s (yards s);
        total = _;
        moves = _;
        is = refl;
        few = w.few_facilities;
        small = (outcome_keeps kind (instance_of s) limit start w.some_facilities (passed_start passed)).0;
      })

  -- which is therefore the set in the area
  pub set_in_area : (area : List ℕ) → plan_set (area_after (plan_left (search_planning kind start limit s room)) area) (length p.plan.bytes) ≡ p.set
  unfolding plan_left
  set_in_area area = set_read_off (plan_left (search_planning kind start limit s room)) p.plan p.set (ap plan_left made) plan_of_set area

-- the call answers as the definition says
module _ (kind : PlanKind) (start : PlanStart) (limit : ℕ) (s : List ℕ) (r : Result Searched Refusal) (area next : List ℕ)
    (says : searched_answer r ≡ search_answer (search_planning kind start limit s (length area)))
    (leaves : next ≡ area_after (plan_left (search_planning kind start limit s (length area))) area) (P : ℕ → Type 0) where
  by : (t : Told) → searched_answer r ≡ accepted t
      → ((p : SearchPlan) → Passed kind start limit s (length area) p → p.stopped ≡ t.stopped → P p.set) → P (plan_set next t.bytes)
  by t e holds =
      let a = answered (search_planning kind start limit s (length area)) t (sym e ∙ says) in
      let p = a.0 in
      let there : plan_set next t.bytes ≡ p.set =
      ap₂ plan_set leaves (ap (λ (x : Told). x.bytes) a.2) ∙ set_in_area kind start limit s (length area) p a.1 area in
      subst P (sym there) (holds p (planned_when kind start limit s (length area) p a.1) (sym (ap (λ (x : Told). x.stopped) a.2)))

  pub of_settled : ((p : SearchPlan) → Passed kind start limit s (length area) p → p.stopped ≡ false → P p.set) → OfSettled r next P
  of_settled holds set bytes moves e = by (told false set bytes moves) (ap searched_answer e) holds

  pub of_stopped : ((p : SearchPlan) → Passed kind start limit s (length area) p → p.stopped ≡ true → P p.set) → OfStopped r next P
  of_stopped holds set bytes moves e = by (told true set bytes moves) (ap searched_answer e) holds
