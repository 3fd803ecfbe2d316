-- What a call that searches answers and leaves in the area: the questions that it asks, and the plan of the set that its search reaches.
use Rattle.std.specs.Prelude.{ℕ, ◌≡◌, Bool, true, false, List, length, Result, Ok, Err}
use Rattle.model.specs.Instance.{Instance}
use Rattle.model.specs.Limit.{Outcome}
use Rattle.model.specs.Answers.{Answer, accepted, refused, ask, after}
use Rattle.refusal.specs.declared.Refusal.{Refusal}
use Rattle.refusal.specs.Numbers.{number_of}
use Rattle.questions.specs.Sheet.{yards, farm_byte, instance_of}
use Rattle.questions.specs.Reading.{reading}
use Rattle.plan_area.specs.Plan.{question9, plan_set}
use Rattle.price.specs.Pricing.{Plan, plan}
use Rattle.starts.specs.Starts.{ask_start}
use Rattle.plan_search.specs.Kinds.{total_by, outcome_by}
use Rattle.plan_search.specs.declared.PlanKind.{PlanKind}
use Rattle.starts.specs.declared.PlanStart.{PlanStart}
use Rattle.plan_search.specs.declared.Searched.{Searched}
use Rattle.plan_search.specs.declared.Searched.TheVariants.{Settled, Stopped}

-- what a search gives: whether it was stopped, else it is settled; the set reached; and the plan of that set
pub record SearchPlan : Type 0 where
  pub stopped : Bool
  pub set : ℕ
  pub plan : Plan

-- of an outcome, with what the plan's total is and byte 3 of each farm's record
unfoldable pub search_plan : Instance → (ℕ → ℕ) → (ℕ → ℕ) → Outcome → SearchPlan
search_plan I byte3 total r =
    record { stopped = r.stopped; set = r.set; plan = plan I byte3 r.set (total r.set) r.steps }

-- The plan of the sheet by a search of this kind, from this start, with at most `limit` moves, and with an area of so many bytes: it asks what reading
-- asks, the question of its start, and 9.
unfoldable pub search_planning : PlanKind → PlanStart → ℕ → List ℕ → ℕ → Answer SearchPlan
search_planning kind start limit s room =
    after (reading s) (λ c. ask_start start c.yards (ask (question9 c.yards c.farms room) 9
    (accepted (search_plan (instance_of s) (farm_byte s (yards s)) (total_by kind (instance_of s)) (outcome_by kind start limit (instance_of s))))))

-- "It tells the moves made and the set", and the bytes written
pub record Told : Type 0 where
  pub stopped : Bool
  pub set : ℕ
  pub bytes : ℕ
  pub moves : ℕ

abbrev pub told : Bool → ℕ → ℕ → ℕ → Told
told stopped set bytes moves = record { stopped = stopped; set = set; bytes = bytes; moves = moves }

-- the answer in each case of the code's result, where each error has a number
abbrev pub searched_by : {E : Type 0} → (E → ℕ) → Result Searched E → Answer Told
searched_by number (Ok (Settled set bytes moves)) = accepted (told false set bytes moves)
searched_by number (Ok (Stopped set bytes moves)) = accepted (told true set bytes moves)
searched_by number (Err e) = refused (number e)

-- that of a call, which refuses by a question
abbrev pub searched_answer : Result Searched Refusal → Answer Told
searched_answer r = searched_by number_of r

-- what a call returns for the plan that it makes, or for its refusal
unfoldable pub search_answer : Answer SearchPlan → Answer Told
search_answer (accepted p) = accepted (told p.stopped p.set (length p.plan.bytes) p.plan.moves)
search_answer (refused k) = refused k

-- the plan, which the call leaves in the area: "either way the plan reached is written as before"
unfoldable pub plan_left : Answer SearchPlan → Answer Plan
plan_left (accepted p) = accepted p.plan
plan_left (refused k) = refused k

-- what holds of the set in the area where the search settled, and where it was stopped
abbrev pub OfSettled : {E : Type 0} → Result Searched E → List ℕ → (ℕ → Type 0) → Type 0
OfSettled r area P = (set bytes moves : ℕ) → r ≡ Ok (Settled set bytes moves) → P (plan_set area bytes)

abbrev pub OfStopped : {E : Type 0} → Result Searched E → List ℕ → (ℕ → Type 0) → Type 0
OfStopped r area P = (set bytes moves : ℕ) → r ≡ Ok (Stopped set bytes moves) → P (plan_set area bytes)
