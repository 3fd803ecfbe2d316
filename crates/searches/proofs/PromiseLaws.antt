-- What the searches promise follows from their equations: the set read off the area is the one that the search reached, and the theorems of local search
-- bound a settled one beside every rival.
use Prim.Native.Nat.{ℕ, ◌^◌, ◌≤◌, ◌<◌}
use mathlib.Core.Path.{◌≡◌, refl, sym, ap, subst, ◌∙◌}
use mathlib.Core.Bool.{true, false}
use mathlib.Core.List.{List}
use lib.ListN.{length}
use Rattle.model.specs.Least.{any}
use Rattle.model.specs.Sets.{count, member}
use Rattle.model.specs.PlansWithin.{open_search_within, limited_search_within}
use Rattle.model.specs.Answers.{Answer, accepted, after}
use Rattle.model.proofs.CountLaws.{count_some}
use Rattle.model.proofs.LeastLaws.{arg_least}
use Rattle.model.proofs.PlanLaws.{limited_start_lem}
use Rattle.model.proofs.PlansWithinLaws.{limited_within_keeps}
use Rattle.bounds.proofs.SettledSearches.{open_settled_bound, open_settled_thrice, limited_settled_five}
use Rattle.questions.specs.Sheet.{yards, instance_of, instance_by}
use Rattle.questions.proofs.AcceptedLaws.{WithinBounds, door, facilities_are}
use Rattle.tariff.specs.declared.TariffChoice.{TariffChoice}
use Rattle.distances.specs.Priced.{sheet_by, OnHauls}
use Rattle.questions.proofs.ReadingLaws.{reading_loads}
use Rattle.distances.proofs.CallLaws.{FormFirst}
use Rattle.plan_area.proofs.PlanFarmLaws.{FarmsSent, farms_sent}
use Rattle.price.specs.Pricing.{area_after}
use Rattle.starts.specs.Starts.{start_by}
use Rattle.plan_search.specs.Kinds.{cost_by_kind, moves_by, outcome_by}
use Rattle.plan_search.specs.Planning.{SearchPlan, search_plan, search_planning, searched_answer, search_answer, plan_left}
use Rattle.plan_search.specs.declared.PlanKind.{PlanKind}
use Rattle.plan_search.specs.declared.PlanKind.TheVariants.{Open, Limited}
use Rattle.starts.specs.declared.PlanStart.{PlanStart}
use Rattle.starts.specs.declared.PlanStart.TheVariants.{First, Given}
use Rattle.std.specs.Prelude.{Result}
use Rattle.refusal.specs.declared.Refusal.{Refusal}
use Rattle.plan_search.specs.declared.Searched.{Searched}
use Rattle.starts.proofs.StartLaws.{start_good, first_within}
use Rattle.plan_search.proofs.OutcomeLaws.{first_set, outcome_keeps, outcome_not_dearer, outcome_settled, outcome_after, outcome_left}
use Rattle.plan_search.proofs.PlanningLaws.{Passed, set_reached, stopped_as, passed_start}
use Rattle.plan_search.proofs.OfSearchLaws.{of_settled, of_stopped}
use Rattle.search.specs.Promises.{OfSize, BoundedByRivals, BoundedByRivalsOf}
use Rattle.searches.specs.SearchingBy.{search_planning_by}
use Rattle.searches.specs.Promises.{OfSearched, NoMoveBy, SettledBy, StoppedAfter, StoppedBy, NoDearerThanStart, NotDearerBy, OpenSearchBounded, LimitedSearchSized, LimitedSearchBounded}

-- ---- of the set that a search reached

module _ (kind : PlanKind) (start : PlanStart) (limit : ℕ) (s : List ℕ) (room : ℕ) (p : SearchPlan) (passed : Passed kind start limit s room p) where
  within : WithinBounds (instance_of s)
  within = door s passed.m passed.n passed.read

  -- where it begins
  begins : (first_set kind start (instance_of s) < 2 ^ (instance_of s).facilities) × (any (instance_of s).facilities (member (first_set kind start (instance_of s))) ≡ true)
  begins = start_good (instance_of s).facilities start (cost_by_kind kind (instance_of s)) within.some_facilities (passed_start passed)

  -- from what holds of the outcome's set
  reached : (P : ℕ → Type 0) → P (outcome_by kind start limit (instance_of s)).set → P p.set
  reached P h = subst P (sym (set_reached passed)) h

  settled : p.stopped ≡ false → (outcome_by kind start limit (instance_of s)).stopped ≡ false
  settled stop = sym (stopped_as passed) ∙ stop

  no_move : p.stopped ≡ false → NoMoveBy kind s p.set
  unfolding instance_of instance_by
  no_move stop = reached (NoMoveBy kind s) (outcome_settled kind (instance_of s) limit start (settled stop))

  -- it is the one after so many moves of the search, and has a move left
  after_all : p.stopped ≡ true → StoppedAfter kind start limit s p.set
  unfolding instance_of instance_by
  after_all stop =
      let left = outcome_left kind (instance_of s) limit start (sym (stopped_as passed) ∙ stop) in
      reached (StoppedAfter kind start limit s)
      (record {
        after = outcome_after kind (instance_of s) limit start;
        left = record { move = left.0; among = left.1; lower = left.2 };
      })

  no_dearer : NoDearerThanStart kind start s p.set
  unfolding instance_of instance_by
  no_dearer = reached (NoDearerThanStart kind start s) (outcome_not_dearer kind (instance_of s) limit start)

-- ---- the bounds of settled plans, from whatever start: each factor is that of the theorem

module _ (start : PlanStart) (limit : ℕ) (s : List ℕ) (room : ℕ) (p : SearchPlan) where
  open_within : Passed Open start limit s room p → p.stopped ≡ false → BoundedByRivals s p.set
  unfolding outcome_by open_search_within cost_by_kind moves_by
  open_within passed stop = reached Open start limit s room p passed (BoundedByRivals s) bound
    where
      bound : BoundedByRivals s (outcome_by Open start limit (instance_of s)).set
      bound rival some =
          let I = instance_of s in
          let w = within Open start limit s room p passed in
          let begun = begins Open start limit s room p passed in
          let some_rival : any I.facilities rival ≡ true = rw (facilities_are s) some in
          let h = settled Open start limit s room p passed stop in
          let b = open_settled_bound I limit (first_set Open start I) begun.0 begun.1 h rival some_rival w.is_metric in
          record {
            hauls = b.service;
            fees = b.opening;
            total = open_settled_thrice I limit (first_set Open start I) begun.0 begun.1 h rival some_rival w.is_metric;
          }

  -- a limited search that begins with k yards
  module _ (k : ℕ) (passed : Passed Limited start limit s room p)
      (size : count (instance_of s).facilities (member (first_set Limited start (instance_of s))) ≡ k) where
    limited_size : OfSize s k p.set
    unfolding outcome_by limited_search_within cost_by_kind moves_by
    limited_size =
        reached Limited start limit s room p passed (OfSize s k)
        (rw (← facilities_are s)
        (limited_within_keeps (instance_of s) k limit (first_set Limited start (instance_of s)) (begins Limited start limit s room p passed).0 size).1)

    limited_within : p.stopped ≡ false → BoundedByRivalsOf s k p.set
    unfolding outcome_by limited_search_within cost_by_kind moves_by
    limited_within stop = reached Limited start limit s room p passed (BoundedByRivalsOf s k) bound
      where
        bound : BoundedByRivalsOf s k (outcome_by Limited start limit (instance_of s)).set
        bound rival some few =
            let I = instance_of s in
            let a = arg_least (yards s) rival (λ i. 0) some in
            let fewer : count I.facilities rival ≤ k = rw (facilities_are s) few in
            limited_settled_five I (within Limited start limit s room p passed).is_metric limit (first_set Limited start I)
            (begins Limited start limit s room p passed).0 (settled Limited start limit s room p passed stop) rival
            (rw (facilities_are s) (count_some (yards s) _ rival a.below a.is_in_lem)) (rw size fewer)

-- how many yards limited searches begin with
module _ (limit : ℕ) (s : List ℕ) (room : ℕ) (p : SearchPlan) where
  pub first_size : (k : ℕ) → Passed Limited (First k) limit s room p
      → count (instance_of s).facilities (member (first_set Limited (First k) (instance_of s))) ≡ k
  unfolding start_by
  first_size k passed = (limited_start_lem (instance_of s).facilities k (first_within (instance_of s).facilities k (passed_start passed)).1).1

  pub given_size : (set : ℕ) → count (instance_of s).facilities (member (first_set Limited (Given set) (instance_of s))) ≡ count (yards s) (member set)
  unfolding start_by instance_of instance_by
  given_size set = refl

-- ---- the promises, on a sheet

module _ (kind : PlanKind) (start : PlanStart) (limit : ℕ) (s : List ℕ) (r : Result Searched Refusal) (area next : List ℕ)
    (says : searched_answer r ≡ search_answer (search_planning kind start limit s (length area)))
    (leaves : next ≡ area_after (plan_left (search_planning kind start limit s (length area))) area) where
  search_settled : SettledBy kind s r next
  search_settled = of_settled kind start limit s r area next says leaves (NoMoveBy kind s) (no_move kind start limit s (length area))

  search_stopped : StoppedBy kind start limit s r next
  search_stopped = of_stopped kind start limit s r area next says leaves (StoppedAfter kind start limit s) (after_all kind start limit s (length area))

  -- settled or stopped
  either : (P : ℕ → Type 0) → ((p : SearchPlan) → Passed kind start limit s (length area) p → P p.set) → OfSearched r next P
  either P holds = (
    of_settled kind start limit s r area next says leaves P (λ p passed stop. holds p passed),
    of_stopped kind start limit s r area next says leaves P (λ p passed stop. holds p passed),
  )

  search_not_dearer : NotDearerBy kind start s r next
  search_not_dearer = either (NoDearerThanStart kind start s) (no_dearer kind start limit s (length area))

  -- each farm is sent to its cheapest open yard
  search_sends : OfSearched r next (FarmsSent s next)
  unfolding area_after plan_left search_plan
  search_sends =
      either (FarmsSent s next) (λ p passed.
      let w = within kind start limit s (length area) p passed in
      let there = leaves ∙ ap (λ (o : Answer SearchPlan). area_after (plan_left o) area) (passed.made ∙ ap accepted passed.is) in
      let keeps = outcome_keeps kind (instance_of s) limit start w.some_facilities (passed_start passed) in
      reached kind start limit s (length area) p passed (FarmsSent s next) (farms_sent s w _ _ _ keeps.1 area next there))

-- ---- and by a tariff, on the sheet of hauls

module _ (kind : PlanKind) (start : PlanStart) (limit : ℕ) (choice : TariffChoice) (tariff s : List ℕ) (r : Result Searched Refusal) (area next : List ℕ)
    (says : searched_answer r ≡ search_answer (search_planning_by kind start limit choice tariff s (length area)))
    (leaves : next ≡ area_after (plan_left (search_planning_by kind start limit choice tariff s (length area))) area) where
  -- what follows from the equations on a sheet holds on the sheet of hauls
  on_hauls : (P : List ℕ → Type 0)
      → ((h : List ℕ) → searched_answer r ≡ search_answer (search_planning kind start limit h (length area))
      → next ≡ area_after (plan_left (search_planning kind start limit h (length area))) area → P h) → OnHauls (sheet_by choice tariff s) P
  unfolding search_planning_by
  on_hauls P holds h e =
      holds h (says ∙ ap (λ (a : Answer (List ℕ)). search_answer (after a (λ g. search_planning kind start limit g (length area)))) e)
      (leaves ∙ ap (λ (a : Answer (List ℕ)). area_after (plan_left (after a (λ g. search_planning kind start limit g (length area)))) area) e)

  settled_by : OnHauls (sheet_by choice tariff s) (λ h. SettledBy kind h r next)
  settled_by = on_hauls (λ h. SettledBy kind h r next) (λ h. search_settled kind start limit h r area next)

  stopped_by : OnHauls (sheet_by choice tariff s) (λ h. StoppedBy kind start limit h r next)
  stopped_by = on_hauls (λ h. StoppedBy kind start limit h r next) (λ h. search_stopped kind start limit h r area next)

  not_dearer_by : OnHauls (sheet_by choice tariff s) (λ h. NotDearerBy kind start h r next)
  not_dearer_by = on_hauls (λ h. NotDearerBy kind start h r next) (λ h. search_not_dearer kind start limit h r area next)

  -- "each farm goes to its cheapest open yard" (demand 2), settled or stopped
  pub sends_by : OnHauls (sheet_by choice tariff s) (λ h. OfSearched r next (FarmsSent h next))
  sends_by = on_hauls (λ h. OfSearched r next (FarmsSent h next)) (λ h. search_sends kind start limit h r area next)

-- ---- all that each call promises, from its two equations

abbrev pub Equations : PlanKind → PlanStart → ℕ → TariffChoice → List ℕ → List ℕ → Result Searched Refusal → List ℕ → List ℕ → Type 0
Equations kind start limit choice tariff s r area next =
    (searched_answer r ≡ search_answer (search_planning_by kind start limit choice tariff s (length area)))
    × (next ≡ area_after (plan_left (search_planning_by kind start limit choice tariff s (length area))) area)

module _ (start : PlanStart) (limit : ℕ) (choice : TariffChoice) (tariff s : List ℕ) (r : Result Searched Refusal) (area next : List ℕ) where
  pub open_promises : (e : Equations Open start limit choice tariff s r area next)
      → (searched_answer r ≡ search_answer (search_planning_by Open start limit choice tariff s (length area)))
      × ((next ≡ area_after (plan_left (search_planning_by Open start limit choice tariff s (length area))) area)
      × (OnHauls (sheet_by choice tariff s) (λ h. SettledBy Open h r next)
      × (OnHauls (sheet_by choice tariff s) (λ h. OpenSearchBounded h r next)
      × (OnHauls (sheet_by choice tariff s) (λ h. StoppedBy Open start limit h r next)
      × OnHauls (sheet_by choice tariff s) (λ h. NotDearerBy Open start h r next)))))
  open_promises e = (
    e.0,
    (
      e.1,
      (
        settled_by Open start limit choice tariff s r area next e.0 e.1,
        (
          on_hauls Open start limit choice tariff s r area next e.0 e.1 (λ h. OpenSearchBounded h r next)
              (λ h says leaves. of_settled Open start limit h r area next says leaves (BoundedByRivals h) (open_within start limit h (length area))),
          (
            stopped_by Open start limit choice tariff s r area next e.0 e.1,
            not_dearer_by Open start limit choice tariff s r area next e.0 e.1,
          ),
        ),
      ),
    ),
  )

  -- of a limited search that begins with so many yards
  pub limited_promises : (size : List ℕ → ℕ)
      → ((h : List ℕ) (p : SearchPlan) → Passed Limited start limit h (length area) p
      → count (instance_of h).facilities (member (first_set Limited start (instance_of h))) ≡ size h)
      → (e : Equations Limited start limit choice tariff s r area next)
      → (searched_answer r ≡ search_answer (search_planning_by Limited start limit choice tariff s (length area)))
      × ((next ≡ area_after (plan_left (search_planning_by Limited start limit choice tariff s (length area))) area)
      × (OnHauls (sheet_by choice tariff s) (λ h. LimitedSearchSized h (size h) r next)
      × (OnHauls (sheet_by choice tariff s) (λ h. SettledBy Limited h r next)
      × (OnHauls (sheet_by choice tariff s) (λ h. LimitedSearchBounded h (size h) r next)
      × (OnHauls (sheet_by choice tariff s) (λ h. StoppedBy Limited start limit h r next)
      × OnHauls (sheet_by choice tariff s) (λ h. NotDearerBy Limited start h r next))))))
  limited_promises size sized e = (
    e.0,
    (
      e.1,
      (
        on_hauls Limited start limit choice tariff s r area next e.0 e.1 (λ h. LimitedSearchSized h (size h) r next)
            (λ h says leaves. either Limited start limit h r area next says leaves (OfSize h (size h))
            (λ p passed. limited_size start limit h (length area) p (size h) passed (sized h p passed))),
        (
          settled_by Limited start limit choice tariff s r area next e.0 e.1,
          (
            on_hauls Limited start limit choice tariff s r area next e.0 e.1 (λ h. LimitedSearchBounded h (size h) r next)
                (λ h says leaves. of_settled Limited start limit h r area next says leaves (BoundedByRivalsOf h (size h))
                (λ p passed stop. limited_within start limit h (length area) p (size h) passed (sized h p passed) stop)),
            (
              stopped_by Limited start limit choice tariff s r area next e.0 e.1,
              not_dearer_by Limited start limit choice tariff s r area next e.0 e.1,
            ),
          ),
        ),
      ),
    ),
  )

-- ---- the searches by a tariff ask questions 1 to 4 and 10 of the sheet of hauls first

pub searching_first : (kind : PlanKind) (start : PlanStart) (limit room : ℕ) → FormFirst (λ h. search_planning kind start limit h room)
unfolding search_planning
searching_first kind start limit room h k e = rw (reading_loads h k e)
