-- What stands where on a sheet (document 01, "The haul sheet"), and the instance that it describes.
use Rattle.std.specs.Prelude.{ℕ, ◌+◌, ◌-◌, ◌*◌, ◌/◌, max, Bool, List, eqb}
use Rattle.model.specs.Loops.{leading}
use Rattle.model.specs.Instance.{Instance}
use Rattle.record.specs.Records.{records, record_at}
use Rattle.questions.specs.Bounds.{yard_kind}

-- record i is a yard
unfoldable pub is_yard : List ℕ → ℕ → Bool
is_yard s i = eqb (record_at s i).kind yard_kind

-- m: how many yard records stand first
unfoldable pub yards : List ℕ → ℕ
yards s = leading (records s) (is_yard s)

-- how many records come after them: the haul records
unfoldable pub hauls : List ℕ → ℕ
hauls s = records s - yards s

-- n: the haul records, shared out m to a farm
unfoldable pub farms : List ℕ → ℕ
farms s = hauls s / yards s

-- "First come the m yards": the fee of yard i is record i's amount
unfoldable pub fee : List ℕ → ℕ → ℕ
fee s i = (record_at s i).amount

-- "Then, for farm 0, its m hauls in yard order; then farm 1": the place of the haul from farm p to yard a, among m yards
abbrev pub place : ℕ → ℕ → ℕ → ℕ
place m p a = m + p * m + a

unfoldable pub haul : List ℕ → ℕ → ℕ → ℕ → ℕ
haul s m a p = (record_at s (place m p a)).amount

-- "Byte 3 of a haul record now holds the farm's loads" (document 02, paper 2): that byte of the haul from farm p to yard a
unfoldable pub loads_byte : List ℕ → ℕ → ℕ → ℕ → ℕ
loads_byte s m a p = (record_at s (place m p a)).byte3

-- "the same byte in all of a farm's records": the first record's stands for the farm
abbrev pub farm_byte : List ℕ → ℕ → ℕ → ℕ
farm_byte s m p = loads_byte s m 0 p

-- the loads that a byte tells, "1 to 20, with 0 read as 1"
abbrev pub loads_of : ℕ → ℕ
loads_of byte = max 1 byte

-- The door between format and model, of a sheet with m yards and n farms: yards are facilities and their fees opening costs,
-- farms are clients, their hauls of one load service costs and their loads weights: "hauls count times loads in every cost".
unfoldable pub instance_by : List ℕ → ℕ → ℕ → Instance
instance_by s m n =
    record { facilities = m; clients = n; opening = fee s; service = haul s m; weight = λ p. loads_of (farm_byte s m p) }

-- the instance that the sheet describes
unfoldable pub instance_of : List ℕ → Instance
instance_of s = instance_by s (yards s) (farms s)
