-- Going on without a limit from the set where a search was cut, stopped or not: on a sheet, and by a tariff.
use Prim.Native.Nat.{ℕ, ◌+◌, ◌≤◌}
use mathlib.Core.Path.{◌≡◌, refl, sym, ap, subst, ◌∙◌}
use mathlib.Core.List.{List, ◌++◌}
use lib.ListN.{length}
use Rattle.model.specs.Loops.{join}
use Rattle.model.specs.Instance.{Instance}
use Rattle.model.specs.Limit.{Outcome}
use Rattle.model.specs.Answers.{Answer, accepted, after}
use Rattle.model.proofs.AnswerLaws.{passed_first}
use Rattle.questions.specs.Sheet.{yards, farm_byte, instance_of}
use Rattle.questions.proofs.AcceptedLaws.{door, facilities_read}
use Rattle.tariff.specs.declared.TariffChoice.{TariffChoice}
use Rattle.distances.specs.Priced.{sheet_by}
use Rattle.plan_area.specs.Plan.{open_record, farm_record, total_record, plan_bytes, plan_set}
use Rattle.price.specs.Pricing.{plan, area_after}
use Rattle.engine.specs.Bounds.{no_limit}
use Rattle.starts.specs.Starts.{start_refusal}
use Rattle.plan_search.specs.Kinds.{total_by, outcome_by}
use Rattle.plan_search.specs.Planning.{SearchPlan, search_plan, search_planning, plan_left}
use Rattle.plan_search.specs.declared.PlanKind.{PlanKind}
use Rattle.starts.specs.declared.PlanStart.{PlanStart}
use Rattle.starts.specs.declared.PlanStart.TheVariants.{Given}
use Rattle.plan_search.proofs.OutcomeLaws.{cut_passes, goes_on_from}
use Rattle.plan_search.proofs.PlanningLaws.{Passed, makes, planned_when, set_reached, passed_start}
use Rattle.plan_search.proofs.OfSearchLaws.{set_in_area}
use Rattle.searches.specs.SearchingBy.{search_planning_by}
use Rattle.searches.specs.GoingOn.{SameButMoves, GoesOn}

-- plans of the same set and total
same_but_moves : (I : Instance) (byte3 : ℕ → ℕ) (set total moves others : ℕ) → SameButMoves (plan I byte3 set total moves) (plan I byte3 set total others)
unfolding plan_bytes
same_but_moves I byte3 set total moves others =
    let opens = join I.facilities (open_record I set) in
    let farms = join I.clients (farm_record I byte3 set) in
    let sum = total_record I set total in
    record { others = opens ++ farms ++ sum; first = refl; second = refl }

-- ---- on a sheet

module _ (kind : PlanKind) (start : PlanStart) (limit : ℕ) (s : List ℕ) (room : ℕ) (cut : SearchPlan) (made : search_planning kind start limit s room ≡ accepted cut)
    (far whole : ℕ) (far_high : no_limit ≤ far) (whole_high : no_limit ≤ whole) where
  abbrev gives : PlanStart → ℕ → SearchPlan
  gives begin limits = search_plan (instance_of s) (farm_byte s (yards s)) (total_by kind (instance_of s)) (outcome_by kind begin limits (instance_of s))

  passed : Passed kind start limit s room cut
  passed = planned_when kind start limit s room cut made

  -- the search from where it was cut is the one of the outcome's set
  goes_on_outcome : (set : ℕ) → set ≡ (outcome_by kind start limit (instance_of s)).set
      → (search_planning kind (Given set) far s room ≡ accepted (gives (Given set) far)) × GoesOn (gives start limit) (gives (Given set) far) (gives start whole)
  unfolding search_plan
  goes_on_outcome set e =
      let w = door s passed.m passed.n passed.read in
      let few = facilities_read s passed.m passed.n passed.read in
      let at = (outcome_by kind start limit (instance_of s)).set in
      let begun : start_refusal (Given set) passed.m ≡ 0 =
      subst (λ (x : ℕ). start_refusal (Given x) passed.m ≡ 0) (sym e)
      (subst (λ (m : ℕ). start_refusal (Given at) m ≡ 0) few (cut_passes kind (instance_of s) limit start w.some_facilities w.few_facilities (passed_start passed))) in
      let on = goes_on_from kind (instance_of s) limit start w.some_facilities w.few_facilities (passed_start passed) far whole far_high whole_high in
      let from : outcome_by kind (Given set) far (instance_of s) ≡ outcome_by kind (Given at) far (instance_of s) =
      ap (λ (x : ℕ). outcome_by kind (Given x) far (instance_of s)) e in
      let there : (outcome_by kind (Given set) far (instance_of s)).set ≡ (outcome_by kind start whole (instance_of s)).set =
      ap (λ (r : Outcome). r.set) from ∙ on.1 in (
        makes kind (Given set) far s room passed.m passed.n passed.read begun passed.fits,
        record {
          settled = ap (λ (r : Outcome). r.stopped) from ∙ on.0;
          same_set = there;
          same_records =
              subst (λ (x : ℕ). SameButMoves (plan (instance_of s) (farm_byte s (yards s)) (outcome_by kind (Given set) far (instance_of s)).set
              (total_by kind (instance_of s) (outcome_by kind (Given set) far (instance_of s)).set) (outcome_by kind (Given set) far (instance_of s)).steps)
              (plan (instance_of s) (farm_byte s (yards s)) x (total_by kind (instance_of s) x) (outcome_by kind start whole (instance_of s)).steps)) there
              (same_but_moves (instance_of s) (farm_byte s (yards s)) _ _ _ _);
          counts_add = ap (λ (r : Outcome). (outcome_by kind start limit (instance_of s)).steps + r.steps) from ∙ on.2;
        },
      )

  pub sheet_goes_on : (rest : SearchPlan) × (unbroken : SearchPlan) × (search_planning kind (Given cut.set) far s room ≡ accepted rest)
      × (search_planning kind start whole s room ≡ accepted unbroken) × GoesOn cut rest unbroken
  sheet_goes_on =
      let on = goes_on_outcome cut.set (set_reached passed) in (
        gives (Given cut.set) far,
        gives start whole,
        on.0,
        makes kind start whole s room passed.m passed.n passed.read passed.start_good passed.fits,
        subst (λ (c : SearchPlan). GoesOn c (gives (Given cut.set) far) (gives start whole)) (sym passed.is) on.1,
      )

-- ---- by a tariff: the set that is gone on from is the one that the call told, which is the one in its area

module _ (kind : PlanKind) (start : PlanStart) (limit : ℕ) (choice : TariffChoice) (tariff s : List ℕ) (room : ℕ) (cut : SearchPlan)
    (made : search_planning_by kind start limit choice tariff s room ≡ accepted cut) where
  pub goes_on_by : (far whole : ℕ) → no_limit ≤ far → no_limit ≤ whole
      → (rest : SearchPlan) × (unbroken : SearchPlan) × (search_planning_by kind (Given cut.set) far choice tariff s room ≡ accepted rest)
      × (search_planning_by kind start whole choice tariff s room ≡ accepted unbroken) × GoesOn cut rest unbroken
  unfolding search_planning_by
  goes_on_by far whole far_high whole_high =
      let h = passed_first (sheet_by choice tariff s) (λ g. search_planning kind start limit g room) cut made in
      let on = sheet_goes_on kind start limit h.0 room cut h.2 far whole far_high whole_high in (
        on.0,
        on.1,
        ap (λ (a : Answer (List ℕ)). after a (λ g. search_planning kind (Given cut.set) far g room)) h.1 ∙ on.2,
        ap (λ (a : Answer (List ℕ)). after a (λ g. search_planning kind start whole g room)) h.1 ∙ on.3,
        on.4,
      )

  pub told_in_area : (area : List ℕ) → plan_set (area_after (plan_left (search_planning_by kind start limit choice tariff s room)) area) (length cut.plan.bytes) ≡ cut.set
  unfolding search_planning_by
  told_in_area area =
      let h = passed_first (sheet_by choice tariff s) (λ g. search_planning kind start limit g room) cut made in
      ap (λ (a : Answer (List ℕ)). plan_set (area_after (plan_left (after a (λ g. search_planning kind start limit g room))) area) (length cut.plan.bytes)) h.1
      ∙ set_in_area kind start limit h.0 room cut h.2 area
