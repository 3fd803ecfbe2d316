-- Laws of where the engine ends: it takes the start, and on tables filled from a sheet its search is that of the sheet's instance.
use Prim.Native.Nat.{ℕ, ◌*◌, ◌≤◌, ◌<◌}
use native.Mathlib.Omega.{arith}
use mathlib.Core.Path.{◌≡◌, refl, sym, ap, ap₂, fun_ext, subst, ◌∙◌}
use mathlib.Core.Bool.{Bool, true, false, cond, true≢false}
use mathlib.Core.List.{List}
use lib.ListN.{length}
use Rattle.std.specs.Prelude.{Option, Some, None, is_some}
use Rattle.std.specs.Option.{unwrap_or}
use Rattle.model.specs.Limit.{Outcome, search_within}
use Rattle.model.specs.Answers.{accepted}
use Rattle.model.proofs.PlaceLaws.{few_places}
use Rattle.record.specs.Records.{amount_end}
use Rattle.questions.specs.Bounds.{most_yards}
use Rattle.questions.specs.Sheet.{instance_by}
use Rattle.questions.specs.Reading.{counts, reading}
use Rattle.questions.proofs.AcceptedLaws.{accepts}
use Rattle.tables.specs.Tables.{table_cost, good_tables}
use Rattle.tables.proofs.LentTableLaws.{good_when}
use Rattle.engine.specs.Moves.{neighbours_by}
use Rattle.engine.specs.SearchOnTables.{found, searching}
use Rattle.engine.specs.declared.Neighbourhood.{Neighbourhood}
use Rattle.engine.specs.declared.Start.{Start}
use Rattle.engine.specs.declared.Found.{Found}
use Rattle.starts.specs.Starts.{start_by, start_refusal, engine_start}
use Rattle.plan_search.specs.Kinds.{cost_by_kind, outcome_by}
use Rattle.plan_search.specs.SheetTables.{Holds, most_factor, scaled_fee, scaled_haul}
use Rattle.plan_search.specs.Terms.{terms_of, outcome_of}
use Rattle.plan_search.specs.declared.PlanKind.{PlanKind}
use Rattle.starts.specs.declared.PlanStart.{PlanStart}
use Rattle.plan_search.specs.declared.planning.Terms.{Terms}
use Rattle.starts.proofs.StartLaws.{start_taken, start_same}
use Rattle.plan_search.proofs.KindLaws.{cost_terms, few_factors, moves_terms}
use Rattle.plan_search.proofs.OutcomeLaws.{outcome_steps}
use Rattle.plan_search.proofs.SheetTableLaws.{tables_good, table_cost_lem}

-- ---- what the engine found is an outcome

found_outcome : (cost : ℕ → ℕ) (o : Outcome) → outcome_of (found cost o) ≡ o
unfolding found
found_outcome cost o = go o.stopped
  where
    go : (b : Bool) → outcome_of (cond b (Found.Stopped o.set (cost o.set) o.steps) (Found.Settled o.set (cost o.set) o.steps))
        ≡ record { stopped = b; set = o.set; steps = o.steps }
    go true = refl
    go false = refl

-- by any cost that an end was found by, its own cost is that of its set
cost_in : (ℕ → ℕ) → Found → Type 0
cost_in f (Found.Stopped set cost moves) = cost ≡ f set
cost_in f (Found.Settled set cost moves) = cost ≡ f set

cost_found : (f : ℕ → ℕ) (end : Found) → end ≡ found f (outcome_of end) → cost_in f end
unfolding cost_in found
cost_found f end e = subst (cost_in f) (sym e) (go (outcome_of end).stopped)
  where
    out : Outcome
    out = outcome_of end

    go : (b : Bool) → cost_in f (cond b (Found.Stopped out.set (f out.set) out.steps) (Found.Settled out.set (f out.set) out.steps))
    go true = refl
    go false = refl

-- the parts of an end, settled or stopped
pub record PartsOf (end : Found) (set cost moves : ℕ) : Type 0 where
  pub set_is : (outcome_of end).set ≡ set
  pub moves_are : (outcome_of end).steps ≡ moves
  pub cost_is : (f : ℕ → ℕ) → end ≡ found f (outcome_of end) → cost ≡ f set

pub parts_settled : (end : Found) (set cost moves : ℕ) → end ≡ Found.Settled set cost moves → PartsOf end set cost moves
unfolding cost_in
parts_settled end set cost moves e =
    record {
      set_is = ap (λ (x : Found). (outcome_of x).set) e;
      moves_are = ap (λ (x : Found). (outcome_of x).steps) e;
      cost_is = λ f is. subst (cost_in f) e (cost_found f end is);
    }

pub parts_stopped : (end : Found) (set cost moves : ℕ) → end ≡ Found.Stopped set cost moves → PartsOf end set cost moves
unfolding cost_in
parts_stopped end set cost moves e =
    record {
      set_is = ap (λ (x : Found). (outcome_of x).set) e;
      moves_are = ap (λ (x : Found). (outcome_of x).steps) e;
      cost_is = λ f is. subst (cost_in f) e (cost_found f end is);
    }

-- ---- the engine takes good tables and a start that passes its question

module _ (moves : Neighbourhood) (start : PlanStart) (limit m n : ℕ) (opening service : List ℕ) (good : good_tables m n opening service ≡ true)
    (passed : start_refusal start m ≡ 0) (begins : Start) (same : begins ≡ engine_start start) where
  pub found_is : searching moves begins limit opening service m n ≡ Some (found (table_cost m n opening service)
      (search_within (table_cost m n opening service) (neighbours_by moves m) limit (start_by start (table_cost m n opening service) m)))
  unfolding searching
  found_is =
      let few : m ≤ most_yards = (good_when m n opening service good).few_facilities in
      let cost = table_cost m n opening service in
      ap (λ (x : Start). searching moves x limit opening service m n) same
      ∙ rw (good, start_taken m start few passed)
      (ap (λ (y : ℕ). Some (found cost (search_within cost (neighbours_by moves m) limit y))) (start_same m start few passed n opening service))

  pub not_refused : (r : Option Found) → r ≡ searching moves begins limit opening service m n → r ≡ None → ⊥
  not_refused r answers none = true≢false (ap is_some (sym found_is ∙ sym answers ∙ none))

-- ---- on tables filled from a sheet

-- tables of 32 and of 4,096 places have room for every accepted sheet's
pub tables_room : (s : List ℕ) (m n : ℕ) → reading s ≡ accepted (counts m n) → (m ≤ 32) × (n * m ≤ 4096)
tables_room s m n e = let form = (accepts s m n e).has in
    (omega (arith, form.few_yards), few_places m n form.few_yards form.few_farms)

pub factors_few : (kind : PlanKind) (terms : Terms) → terms ≡ terms_of kind → (terms.fees ≤ most_factor) × (terms.hauls ≤ most_factor)
factors_few kind terms by = rw by (few_factors kind)

module _ (kind : PlanKind) (start : PlanStart) (limit : ℕ) (s : List ℕ) (m n : ℕ) (terms : Terms) (by : terms ≡ terms_of kind)
    (opening service : List ℕ) (fees_held : Holds (scaled_fee terms.fees s) m opening) (hauls_held : Holds (scaled_haul terms.hauls s m) (n * m) service) where
  pub costs_are : table_cost m n opening service ≡ cost_by_kind kind (instance_by s m n)
  costs_are =
      fun_ext (λ set. table_cost_lem s m n terms.fees terms.hauls opening service fees_held hauls_held set
      ∙ rw by (sym (cost_terms kind (instance_by s m n) set)))

  -- where a search by the tables' cost ends, there ends that of the sheet's instance
  pub same_end : (r : Found) → r ≡ found (table_cost m n opening service) (search_within (table_cost m n opening service) (neighbours_by terms.moves m) limit
      (start_by start (table_cost m n opening service) m)) → r ≡ found (cost_by_kind kind (instance_by s m n)) (outcome_by kind start limit (instance_by s m n))
  unfolding outcome_by instance_by
  same_end r ended =
      ended ∙ ap (λ (t : Terms). found (table_cost m n opening service) (search_within (table_cost m n opening service) (neighbours_by t.moves m) limit
      (start_by start (table_cost m n opening service) m))) by
      ∙ ap₂ (λ (cost : ℕ → ℕ) (moves : ℕ → List ℕ). found cost (search_within cost moves limit (start_by start cost m))) costs_are (moves_terms kind m)

module _ (kind : PlanKind) (start : PlanStart) (limit : ℕ) (s : List ℕ) (m n : ℕ) (e : reading s ≡ accepted (counts m n)) (passed : start_refusal start m ≡ 0)
    (terms : Terms) (by : terms ≡ terms_of kind) (opening service : List ℕ) (fees_held : Holds (scaled_fee terms.fees s) m opening)
    (hauls_held : Holds (scaled_haul terms.hauls s m) (n * m) service) (opening_room : m ≤ length opening) (service_room : n * m ≤ length service)
    (begins : Start) (same : begins ≡ engine_start start) where
  -- the engine takes the tables
  pub good : good_tables m n opening service ≡ true
  good =
      tables_good s m n terms.fees terms.hauls (accepts s m n e) (factors_few kind terms by).0 (factors_few kind terms by).1 opening service fees_held hauls_held
      opening_room service_room

  pub some_end : (r : Option Found) → r ≡ searching terms.moves begins limit opening service m n → r ≡ None → ⊥
  some_end = not_refused terms.moves start limit m n opening service good passed begins same

  module _ (r : Found) (answers : Some r ≡ searching terms.moves begins limit opening service m n) where
    -- what it finds is where the search of the sheet's instance ends
    end_is : r ≡ found (cost_by_kind kind (instance_by s m n)) (outcome_by kind start limit (instance_by s m n))
    end_is =
        same_end kind start limit s m n terms by opening service fees_held hauls_held r
        (ap (λ (o : Option Found). unwrap_or o r) (answers ∙ found_is terms.moves start limit m n opening service good passed begins same))

    pub end_outcome : outcome_of r ≡ outcome_by kind start limit (instance_by s m n)
    end_outcome = ap outcome_of end_is ∙ found_outcome (cost_by_kind kind (instance_by s m n)) (outcome_by kind start limit (instance_by s m n))

    pub end_found : r ≡ found (cost_by_kind kind (instance_by s m n)) (outcome_of r)
    end_found = end_is ∙ ap (found (cost_by_kind kind (instance_by s m n))) (sym end_outcome)

    pub end_moves : (outcome_of r).steps < amount_end
    unfolding instance_by
    end_moves =
        let form = (accepts s m n e).has in
        subst (λ (x : Outcome). x.steps < amount_end) (sym end_outcome)
        (outcome_steps kind (instance_by s m n) limit start form.some_yards passed form.few_yards)
