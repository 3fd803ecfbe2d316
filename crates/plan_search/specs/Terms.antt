-- What a kind of plan asks of the engine, and what is written of where it ends, for private functions alone.
use Rattle.std.specs.Prelude.{ℕ, true, false, List}
use Rattle.model.specs.Limit.{Outcome}
use Rattle.model.specs.Answers.{Answer, accepted}
use Rattle.questions.specs.Sheet.{farm_byte, instance_by}
use Rattle.stretch.specs.declared.counted_sheet.CountedSheet.{CountedSheet}
use Rattle.engine.specs.declared.Neighbourhood.TheVariants.{AddDropSwap, Swap}
use Rattle.engine.specs.declared.Found.{Found}
use Rattle.engine.specs.declared.Found.TheVariants.{Stopped, Settled}
use Rattle.plan_search.specs.Kinds.{total_by}
use Rattle.plan_search.specs.Planning.{SearchPlan, search_plan}
use Rattle.plan_search.specs.declared.PlanKind.{PlanKind}
use Rattle.plan_search.specs.declared.PlanKind.TheVariants.{Open, Limited}
use Rattle.plan_search.specs.declared.planning.Terms.{Terms}

-- the moves, and how many times a fee and a haul count
abbrev pub terms_of : PlanKind → Terms
terms_of Open = record { moves = AddDropSwap; fees = 1; hauls = 1 }
terms_of Limited = record { moves = Swap; fees = 0; hauls = 1 }

-- where a search ends, as the engine answers it
abbrev pub outcome_of : Found → Outcome
outcome_of (Stopped set cost moves) = record { stopped = true; set = set; steps = moves }
outcome_of (Settled set cost moves) = record { stopped = false; set = set; steps = moves }

-- the plan on a sheet of m yards and n farms
unfoldable pub plan_on : PlanKind → List ℕ → ℕ → ℕ → Outcome → Answer SearchPlan
plan_on kind s m n r = accepted (search_plan (instance_by s m n) (farm_byte s m) (total_by kind (instance_by s m n)) r)

abbrev pub plan_of : PlanKind → CountedSheet → Outcome → Answer SearchPlan
plan_of kind c r = plan_on kind c.bytes.now c.yards c.farms r
