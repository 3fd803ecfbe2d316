-- Without a limit on moves: the plan is that of the set where the unbroken search ends.
use Prim.Native.Nat.{ℕ, ◌≤◌}
use mathlib.Core.Path.{◌≡◌, refl, ap, ◌∙◌}
use mathlib.Core.Bool.{Bool, true, false}
use mathlib.Core.List.{List}
use Rattle.model.specs.Instance.{Instance}
use Rattle.model.specs.Search.{Reached, search}
use Rattle.model.specs.Limit.{Outcome}
use Rattle.model.specs.Answers.{Answer, accepted, refused, ask, after}
use Rattle.model.proofs.Bools.{cases}
use Rattle.questions.specs.Sheet.{yards, farm_byte, instance_of}
use Rattle.questions.specs.declared.Counts.{Counts}
use Rattle.questions.specs.Reading.{reading}
use Rattle.questions.proofs.AcceptedLaws.{door, facilities_read}
use Rattle.plan_area.specs.Plan.{question9}
use Rattle.price.specs.Pricing.{Plan, plan, question8}
use Rattle.engine.specs.Bounds.{no_limit}
use Rattle.starts.specs.Starts.{question7, ask_start, start_refusal}
use Rattle.plan_search.specs.Kinds.{cost_by_kind, moves_by, total_by, outcome_by}
use Rattle.plan_search.specs.Planning.{SearchPlan, search_plan, search_planning, plan_left}
use Rattle.plan_search.specs.declared.PlanKind.{PlanKind}
use Rattle.starts.specs.declared.PlanStart.{PlanStart}
use Rattle.starts.specs.declared.PlanStart.TheVariants.{Cheapest, First, Given}
use Rattle.plan_search.proofs.OutcomeLaws.{first_set, outcome_unbroken}

-- where the unbroken search ends, and the plan of its set
abbrev pub unbroken : PlanKind → PlanStart → Instance → Reached
unbroken kind start I = search (cost_by_kind kind I) (moves_by kind I.facilities) (first_set kind start I)

abbrev pub unbroken_plan : PlanKind → PlanStart → List ℕ → Plan
unbroken_plan kind start s =
    let end = unbroken kind start (instance_of s) in
    plan (instance_of s) (farm_byte s (yards s)) end.set (total_by kind (instance_of s) end.set) end.steps

-- ---- what is asked before the plan is asked of it too

left_asked : (b : Bool) (k : ℕ) (p : SearchPlan) → plan_left (ask b k (accepted p)) ≡ ask b k (accepted p.plan)
unfolding plan_left
left_asked true k p = refl
left_asked false k p = refl

left_started : (start : PlanStart) (m : ℕ) (x : Answer SearchPlan) (y : Answer Plan) → (start_refusal start m ≡ 0 → plan_left x ≡ y)
    → plan_left (ask_start start m x) ≡ ask_start start m y
unfolding plan_left ask_start start_refusal
left_started Cheapest m x y h = h refl
left_started (First k) m x y h = cases (question7 m k) (λ e. rw e (h (rw e))) (λ e. rw e)
left_started (Given set) m x y h = cases (question8 m set) (λ e. rw e (h (rw e))) (λ e. rw e)

pub unlimited : (kind : PlanKind) (start : PlanStart) (limit : ℕ) → no_limit ≤ limit → (s : List ℕ) (room : ℕ)
    → plan_left (search_planning kind start limit s room)
    ≡ after (reading s) (λ c. ask_start start c.yards (ask (question9 c.yards c.farms room) 9 (accepted (unbroken_plan kind start s))))
unfolding search_planning search_plan
unlimited kind start limit high s room = go (reading s) refl
  where
    whole : SearchPlan
    whole = search_plan (instance_of s) (farm_byte s (yards s)) (total_by kind (instance_of s)) (outcome_by kind start limit (instance_of s))

    go : (a : Answer Counts) → reading s ≡ a
        → plan_left (after a (λ c. ask_start start c.yards (ask (question9 c.yards c.farms room) 9 (accepted whole))))
        ≡ after a (λ c. ask_start start c.yards (ask (question9 c.yards c.farms room) 9 (accepted (unbroken_plan kind start s))))
    go (accepted c) e =
        left_started start c.yards _ _ (λ passed.
        let w = door s c.yards c.farms e in
        let begun : start_refusal start (instance_of s).facilities ≡ 0 = rw (facilities_read s c.yards c.farms e) passed in
        let out = outcome_unbroken kind (instance_of s) limit start w.some_facilities begun w.few_facilities high in
        left_asked (question9 c.yards c.farms room) 9 whole
        ∙ ap (λ (r : Outcome). ask (question9 c.yards c.farms room) 9
        (accepted (plan (instance_of s) (farm_byte s (yards s)) r.set (total_by kind (instance_of s) r.set) r.steps))) out)
    go (refused k) e = unfold plan_left in refl
