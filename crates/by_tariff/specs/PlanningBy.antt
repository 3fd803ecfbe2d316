-- The two plans by a tariff, or by none (document 02, paper 3): those of the sheet of hauls.
use Rattle.std.specs.Prelude.{ℕ, List}
use Rattle.model.specs.Answers.{Answer, after}
use Rattle.tariff.specs.declared.TariffChoice.{TariffChoice}
use Rattle.distances.specs.Priced.{sheet_by}
use Rattle.price.specs.Pricing.{Plan}
use Rattle.search.specs.Planning.{open_planning, limited_planning}

unfoldable pub open_planning_by : TariffChoice → List ℕ → List ℕ → ℕ → Answer Plan
open_planning_by choice tariff s room = after (sheet_by choice tariff s) (λ h. open_planning h room)

unfoldable pub limited_planning_by : TariffChoice → List ℕ → List ℕ → ℕ → ℕ → Answer Plan
limited_planning_by choice tariff s k room = after (sheet_by choice tariff s) (λ h. limited_planning h k room)
