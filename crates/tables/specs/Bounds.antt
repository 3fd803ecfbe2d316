-- The bounds of the tables that the engine takes, each named here and nowhere written again.
use Rattle.std.specs.Prelude.{ℕ}
use Rattle.rows.specs.Shifts.{columns}

-- the facilities: one for each column of a row of service costs
abbrev pub most_facilities : ℕ
most_facilities = columns

-- the clients
abbrev pub most_clients : ℕ
most_clients = 128

-- a service cost: below 2 ^ 31, so that differences of two do not wrap
abbrev pub most_entry : ℕ
most_entry = 2000000000

-- an opening cost
abbrev pub most_opening : ℕ
most_opening = 4000000000
