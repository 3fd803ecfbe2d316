-- A floor under all lists by a tariff or by none (document 02, paper 3): the call on the sheet of hauls.
use Rattle.std.specs.Prelude.{ℕ, List}
use Rattle.model.specs.Answers.{Answer, after}
use Rattle.tariff.specs.declared.TariffChoice.{TariffChoice}
use Rattle.distances.specs.Priced.{sheet_by}
use Rattle.floor.specs.Offering.{offering}

unfoldable pub offering_by : TariffChoice → List ℕ → List ℕ → List ℕ → Answer ℕ
offering_by choice tariff s offers = after (sheet_by choice tariff s) (λ h. offering h offers)
