-- What is promised of a search's plan, in readable words, on a sheet of hauls. All are said of the set that is read off the records of kind 4F in the area
-- at exit; both buyers are priced by the costs of the sheet's instance, never by the printed total. "The second demand's no move left, the whole third demand
-- .. and the factors .. are promised for settled plans, whatever their start"; "a stopped plan is the one after that many moves of its search and, by the cost
-- that this search goes by, never dearer than its start" (document 02, paper 7).
use Rattle.std.specs.Prelude.{ℕ, ◌≤◌, ◌<◌, ◌≡◌, List}
use Rattle.model.specs.Passing.{through}
use Rattle.model.specs.Search.{Among, NoLower, next}
use Rattle.questions.specs.Sheet.{yards, instance_of}
use Rattle.starts.specs.Starts.{start_by}
use Rattle.plan_search.specs.Kinds.{cost_by_kind, moves_by}
use Rattle.plan_search.specs.Planning.{OfSettled, OfStopped}
use Rattle.plan_search.specs.declared.PlanKind.{PlanKind}
use Rattle.starts.specs.declared.PlanStart.{PlanStart}
use Rattle.std.specs.Prelude.{Result}
use Rattle.refusal.specs.declared.Refusal.{Refusal}
use Rattle.plan_search.specs.declared.Searched.{Searched}
use Rattle.search.specs.Promises.{OfSize, BoundedByRivals, BoundedByRivalsOf}

-- what holds of the set in the area, settled or stopped
abbrev pub OfSearched : Result Searched Refusal → List ℕ → (ℕ → Type 0) → Type 0
OfSearched r area P = OfSettled r area P × OfStopped r area P

-- the set that a search of the sheet begins at
abbrev pub beginning : PlanKind → PlanStart → List ℕ → ℕ
beginning kind start s = start_by start (cost_by_kind kind (instance_of s)) (yards s)

-- ---- "no move left that lowers it" (demand 2), by the cost that the search goes by

abbrev pub NoMoveBy : PlanKind → List ℕ → ℕ → Type 0
NoMoveBy kind s set = NoLower (cost_by_kind kind (instance_of s)) (moves_by kind (yards s) set) set

abbrev pub SettledBy : PlanKind → List ℕ → Result Searched Refusal → List ℕ → Type 0
SettledBy kind s r area = OfSettled r area (NoMoveBy kind s)

-- ---- stopped: after that many moves of the search, where "another move would lower the cost"

pub record MoveLeft (kind : PlanKind) (s : List ℕ) (set : ℕ) : Type 0 where
  pub move : ℕ
  pub among : Among move (moves_by kind (yards s) set)
  pub lower : cost_by_kind kind (instance_of s) move < cost_by_kind kind (instance_of s) set

-- the set after so many moves of the search
abbrev pub after_moves : PlanKind → PlanStart → ℕ → List ℕ → ℕ
after_moves kind start limit s =
    through limit (λ i. next (cost_by_kind kind (instance_of s)) (moves_by kind (yards s))) (beginning kind start s)

pub record StoppedAfter (kind : PlanKind) (start : PlanStart) (limit : ℕ) (s : List ℕ) (set : ℕ) : Type 0 where
  pub after : set ≡ after_moves kind start limit s
  pub left : MoveLeft kind s set

abbrev pub StoppedBy : PlanKind → PlanStart → ℕ → List ℕ → Result Searched Refusal → List ℕ → Type 0
StoppedBy kind start limit s r area = OfStopped r area (StoppedAfter kind start limit s)

-- ---- never dearer than the start, by that cost

abbrev pub NoDearerThanStart : PlanKind → PlanStart → List ℕ → ℕ → Type 0
NoDearerThanStart kind start s set = cost_by_kind kind (instance_of s) set ≤ cost_by_kind kind (instance_of s) (beginning kind start s)

abbrev pub NotDearerBy : PlanKind → PlanStart → List ℕ → Result Searched Refusal → List ℕ → Type 0
NotDearerBy kind start s r area = OfSearched r area (NoDearerThanStart kind start s)

-- ---- a limited list keeps its count of yards

abbrev pub LimitedSearchSized : List ℕ → ℕ → Result Searched Refusal → List ℕ → Type 0
LimitedSearchSized s k r area = OfSearched r area (OfSize s k)

-- ---- demand 3

abbrev pub OpenSearchBounded : List ℕ → Result Searched Refusal → List ℕ → Type 0
OpenSearchBounded s r area = OfSettled r area (BoundedByRivals s)

abbrev pub LimitedSearchBounded : List ℕ → ℕ → Result Searched Refusal → List ℕ → Type 0
LimitedSearchBounded s k r area = OfSettled r area (BoundedByRivalsOf s k)
