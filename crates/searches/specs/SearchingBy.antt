-- The searches by a tariff, or by none (document 02, paper 3): those of the sheet of hauls.
use Rattle.std.specs.Prelude.{ℕ, List}
use Rattle.model.specs.Answers.{Answer, after}
use Rattle.tariff.specs.declared.TariffChoice.{TariffChoice}
use Rattle.distances.specs.Priced.{sheet_by}
use Rattle.plan_search.specs.Planning.{SearchPlan, search_planning}
use Rattle.plan_search.specs.declared.PlanKind.{PlanKind}
use Rattle.starts.specs.declared.PlanStart.{PlanStart}

unfoldable pub search_planning_by : PlanKind → PlanStart → ℕ → TariffChoice → List ℕ → List ℕ → ℕ → Answer SearchPlan
search_planning_by kind start limit choice tariff s room = after (sheet_by choice tariff s) (λ h. search_planning kind start limit h room)
