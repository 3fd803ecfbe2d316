-- Where a search begins: document 01's starts, or a given set (document 02, paper 7); and the question that is asked of it.
use Rattle.std.specs.Prelude.{ℕ, ◌^◌, Bool, true, cond, ◌&&◌, leb}
use Rattle.model.specs.Least.{arg}
use Rattle.model.specs.Plans.{limited_start}
use Rattle.model.specs.Answers.{Answer, accepted, ask}
use Rattle.questions.specs.Bounds.{most_yards}
use Rattle.price.specs.Pricing.{question8}
use Rattle.engine.specs.declared.Start.{Start}
use Rattle.engine.specs.declared.Start.TheVariants as engine
use Rattle.starts.specs.declared.PlanStart.{PlanStart}
use Rattle.starts.specs.declared.PlanStart.TheVariants.{Cheapest, First, Given}

-- The set that a search on m facilities begins at, by its cost: "the single yard of least .. cost, lowest number among equals"; "yards 0 to k − 1"; "a
-- given set".
unfoldable pub start_by : PlanStart → (ℕ → ℕ) → ℕ → ℕ
start_by Cheapest cost m = 2 ^ arg m (λ i. true) (λ i. cost (2 ^ i))
start_by (First k) cost m = limited_start k
start_by (Given set) cost m = set

-- 7. Is k from 1 to m?
unfoldable pub question7 : ℕ → ℕ → Bool
question7 m k = leb 1 k && leb k m

-- what is asked of it, ahead of what comes after: "a given set, tested by question 8 and not 7"
unfoldable pub ask_start : {A : Type 0} → PlanStart → ℕ → Answer A → Answer A
ask_start Cheapest m rest = rest
ask_start (First k) m rest = ask (question7 m k) 7 rest
ask_start (Given set) m rest = ask (question8 m set) 8 rest

-- that question alone
unfoldable pub asked_start : PlanStart → ℕ → Answer (Unit {0})
asked_start start m = ask_start start m (accepted tt)

-- ---- as the code has it

-- the number of that question where it is answered no, else 0
unfoldable pub start_refusal : PlanStart → ℕ → ℕ
start_refusal Cheapest m = 0
start_refusal (First k) m = cond (question7 m k) 0 7
start_refusal (Given set) m = cond (question8 m set) 0 8

-- the engine's start; the empty set, which it turns down, for more yards than a sheet has
unfoldable pub engine_start : PlanStart → Start
engine_start Cheapest = engine.Cheapest
engine_start (First k) = engine.Set (cond (leb k most_yards) (limited_start k) 0)
engine_start (Given set) = engine.Set set
