-- For private functions: what the search for the nearest yard compares.
use Rattle.std.specs.Prelude.{ℕ, ◌+◌, ◌-◌, ◌*◌, ◌^◌, ◌<◌, cond, ◌&&◌, ◌||◌, List, eqb, ltb}
use Rattle.record.specs.Records.{amount_at, amount_end}
use Rattle.nearest.specs.Nearest.{yards_on}
use Rattle.nearest.specs.declared.Choice.{Choice}

-- A haul and a fee stand in one number, the key: the haul times this, and the fee.
abbrev pub haul_step : ℕ
haul_step = 2 ^ 32

abbrev pub choice : ℕ → ℕ → ℕ → Choice
choice yard haul fee = record { yard = yard; key = haul_step * haul + fee }

-- a yard's number is a byte, so that no yard has this one; no haul and fee come after the last key
abbrev pub no_yard : ℕ
no_yard = 2 ^ 8

abbrev pub last_key : ℕ
last_key = 2 ^ 64 - 1

-- what comes after every choice of a yard
abbrev pub no_choice : Choice
no_choice = record { yard = no_yard; key = last_key }

unfoldable pub choice_of : List ℕ → List ℕ → ℕ → Choice
choice_of fees hauls yard = cond (ltb yard (yards_on fees hauls)) (choice yard (amount_at hauls yard) (amount_at fees yard)) no_choice

-- where the yard has both records, their amounts have four bytes
abbrev pub AmountsFit : List ℕ → List ℕ → ℕ → Type 0
AmountsFit fees hauls yard = yard < yards_on fees hauls → (amount_at hauls yard < amount_end) × (amount_at fees yard < amount_end)

-- the one of the lesser key, among equals the one of the lower number
unfoldable pub nearer : Choice → Choice → Choice
nearer a b = cond (ltb b.key a.key || (eqb b.key a.key && ltb b.yard a.yard)) b a
