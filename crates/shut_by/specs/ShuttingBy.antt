-- What if this yard shuts, by a tariff or by none (document 02, paper 3): the two calls on the sheet of hauls.
use Rattle.std.specs.Prelude.{ℕ, List, ℤ}
use Rattle.model.specs.Answers.{Answer, after}
use Rattle.tariff.specs.declared.TariffChoice.{TariffChoice}
use Rattle.distances.specs.Priced.{sheet_by}
use Rattle.nearest.specs.Nearest.{Nearest}
use Rattle.shut.specs.Shutting.{seconding, shutting}

unfoldable pub seconding_by : TariffChoice → List ℕ → List ℕ → ℕ → ℕ → Answer Nearest
seconding_by choice tariff s set farm = after (sheet_by choice tariff s) (λ h. seconding h set farm)

unfoldable pub shutting_by : TariffChoice → List ℕ → List ℕ → ℕ → ℕ → Answer ℤ
shutting_by choice tariff s set yard = after (sheet_by choice tariff s) (λ h. shutting h set yard)
