-- The numbers of paper 3 (document 02), each named here.
use Rattle.std.specs.Prelude.{ℕ}

-- the kind of a tariff's records, how many there may be, and their bytes
abbrev pub band_kind : ℕ
band_kind = 0x42

abbrev pub most_bands : ℕ
most_bands = 16

abbrev pub most_tariff_bytes : ℕ
most_tariff_bytes = 128

-- the number of the last one that there may be
abbrev pub last_band : ℕ
last_band = 15

-- what a number of two bytes stays below
abbrev pub half_word : ℕ
half_word = 65536

-- how many distances a block has
abbrev pub block : ℕ
block = 64
