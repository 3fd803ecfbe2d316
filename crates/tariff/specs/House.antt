-- The house tariff: "ends 100, 250, 500, 1000, 2000, 4000 at rates 40, 34, 28, 22, 18, 15" (document 02, paper 3), and its hauls from the table of
-- band starts (paper 6).
use Rattle.std.specs.Prelude.{ℕ, ◌+◌, List, [], ◌∷◌, get_or}
use Rattle.tariff.specs.declared.bands.Band.{Band}
use Rattle.tariff.specs.Bands.{band_by, Bands, charge, band_number}

abbrev pub house_bands : List Band
house_bands =
    band_by 0 100 40 ∷ band_by 100 250 34 ∷ band_by 250 500 28 ∷ band_by 500 1000 22 ∷ band_by 1000 2000 18 ∷ band_by 2000 4000 15 ∷ []

abbrev pub house : Bands
house = record { count = 6; band = λ i. get_or house_bands i (band_by 0 0 0) }

-- "the cost at a band's start .. is to come from the constant table"
abbrev pub house_starts : List ℕ
house_starts = 0 ∷ 4000 ∷ 9100 ∷ 16100 ∷ 27100 ∷ 45100 ∷ []

-- a haul from the table: the cost at the start of the distance's band, and the distance inside that band times its rate
unfoldable pub haul_from_start : ℕ → ℕ
haul_from_start d = get_or house_starts (band_number house d) 0 + charge (house.band (band_number house d)) d
