-- Pricing a set by a tariff, or by none (document 02, paper 3): pricing it on the sheet of hauls.
use Rattle.std.specs.Prelude.{ℕ, List}
use Rattle.model.specs.Answers.{Answer, after}
use Rattle.tariff.specs.declared.TariffChoice.{TariffChoice}
use Rattle.distances.specs.Priced.{sheet_by}
use Rattle.price.specs.Pricing.{Plan, pricing}

unfoldable pub pricing_by : TariffChoice → List ℕ → List ℕ → ℕ → ℕ → Answer Plan
pricing_by choice tariff s set room = after (sheet_by choice tariff s) (λ h. pricing h set room)
