-- The number by which a caller chooses the tariff.
use Rattle.std.specs.Prelude.{ℕ, cond, eqb}
use Rattle.tariff.specs.declared.TariffChoice.{TariffChoice}
use Rattle.tariff.specs.declared.TariffChoice.TheVariants.{NoTariff, HouseTariff, GivenTariff}

-- What a call by a tariff is told: 0, hauls as written; 1, distances by the house tariff; any other number, distances by the tariff that is
-- handed over.
unfoldable pub choice_of : ℕ → TariffChoice
choice_of hauls = cond (eqb hauls 0) NoTariff (cond (eqb hauls 1) HouseTariff GivenTariff)
