-- The numbers of document 01 ("The haul sheet") and of document 02's paper 2, each named here; proofs/Limits.antt computes the questions at them.
use Rattle.std.specs.Prelude.{ℕ}

-- the kinds of a sheet's records
abbrev pub yard_kind : ℕ
yard_kind = 0x59

abbrev pub haul_kind : ℕ
haul_kind = 0x48

-- the bytes of a sheet
abbrev pub least_bytes : ℕ
least_bytes = 16

abbrev pub most_bytes : ℕ
most_bytes = 33024

-- yards, farms
abbrev pub most_yards : ℕ
most_yards = 32

abbrev pub most_farms : ℕ
most_farms = 128

-- a farm's loads
abbrev pub most_loads : ℕ
most_loads = 20

-- a fee, a haul, in cents
abbrev pub most_fee : ℕ
most_fee = 50000000

abbrev pub most_haul : ℕ
most_haul = 1000000
