-- The numbers of the engine, each named here and nowhere written again: what follows from the bounds of the tables (crate `tables`), and where the
-- stretches of the kept table begin.
use Rattle.std.specs.Prelude.{ℕ, ◌+◌, ◌-◌, ◌*◌, ◌^◌}
use Rattle.tables.specs.Bounds.{most_facilities, most_clients, most_entry, most_opening}

-- ---- what follows from the bounds

-- no search makes so many moves: no set comes twice in it
abbrev pub no_limit : ℕ
no_limit = 2 ^ most_facilities - 1

-- stands for a facility that is missing: the highest cost and the last facility, in one number
abbrev pub no_facility : ℕ
no_facility = most_facilities * most_entry + 31

-- stands for the opening cost of a place that is no facility: no move there looks cheap
abbrev pub no_opening : ℕ
no_opening = 1000000000000

-- the service costs of all clients, the opening costs of all facilities, both, and both with a place more that is no facility
abbrev pub most_served : ℕ
most_served = most_clients * most_entry

abbrev pub most_opened : ℕ
most_opened = most_facilities * most_opening

abbrev pub most_cost : ℕ
most_cost = most_opened + most_served

abbrev pub most_added : ℕ
most_added = most_cost + no_opening

-- the highest bit of a number of 64 bits
abbrev pub top_bit : ℕ
top_bit = 2 ^ 63

-- ---- the kept table

-- from 0 on the nearest facility of each client; then the second nearest
abbrev pub seconds_from : ℕ
seconds_from = most_clients

-- for each facility the service cost with it added
abbrev pub added_from : ℕ
added_from = seconds_from + most_clients

-- for each what its clients pay more where it goes
abbrev pub loss_from : ℕ
loss_from = added_from + most_facilities

-- for each, in a row of its own, what its clients pay more where another one comes for it
abbrev pub more_from : ℕ
more_from = loss_from + most_facilities

abbrev pub kept_length : ℕ
kept_length = more_from + most_facilities * most_facilities

-- the rows of all clients, and a row behind them
abbrev pub service_length : ℕ
service_length = most_clients * most_facilities + most_facilities
