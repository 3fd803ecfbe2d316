-- What a tariff as a value of the code charges for a distance, and when that is what bands charge.
use Rattle.std.specs.Prelude.{ℕ, ◌+◌, ◌*◌, ◌≤◌, ◌<◌, min, ◌≡◌, List, get_or, ltb}
use Rattle.model.specs.Sets.{count}
use Rattle.record.specs.Records.{amount_end}
use Rattle.tariff.specs.declared.bands.Tariff.{Tariff}
use Rattle.tariff.specs.Bounds.{last_band}
use Rattle.tariff.specs.Bands.{Bands, haul_by, last_end}

-- the band of a distance: how many of the bands before the last one it is past
unfoldable pub band_passed : Tariff → ℕ → ℕ
band_passed t d = count (min t.last last_band) (λ i. ltb (get_or t.ends i 0) d)

-- the distance times a band's rate, and its intercept
abbrev pub line_of : List ℕ → List ℕ → ℕ → ℕ → ℕ
line_of rates intercepts band d = get_or intercepts band 0 + d * get_or rates band 0

unfoldable pub price_of : Tariff → ℕ → ℕ
price_of t d = line_of t.rates t.intercepts (band_passed t d) d

-- The tariff charges for every distance up to the last end what the bands charge, and that fits the four bytes of an amount.
pub record PricesAs (b : Bands) (t : Tariff) : Type 0 where
  pub reaches : t.reach ≡ last_end b
  pub prices : (d : ℕ) → d ≤ last_end b → price_of t d ≡ haul_by b d
  pub fits : (d : ℕ) → haul_by b d < amount_end
