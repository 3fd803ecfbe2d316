-- The bytes that the marked cases are written with: sheets, offers, tariffs, and the records of a plan.
use Prim.Native.Nat.{ℕ}
use mathlib.Core.List.{List, ◌++◌}
use Rattle.record.specs.Records.{record_of, bytes_of}
use Rattle.tariff.proofs.BandBytes.{band_bytes}

-- ---- the sheets

unfoldable pub yard : ℕ → ℕ → List ℕ
yard i fee = bytes_of (record_of 0x59 i 0 0 fee)

-- farm p's haul to yard a, with the byte of its loads
unfoldable pub haul_to : ℕ → ℕ → ℕ → ℕ → List ℕ
haul_to p a byte3 amount = bytes_of (record_of 0x48 a p byte3 amount)

-- two yards with fees 0, and two farms of these loads: hauls 1, 1 and 1, x
unfoldable pub two_yards : ℕ → ℕ → ℕ → List ℕ
two_yards b c x = yard 0 0 ++ yard 1 0 ++ haul_to 0 0 b 1 ++ haul_to 0 1 b 1 ++ haul_to 1 0 c 1 ++ haul_to 1 1 c x

-- document 02, paper 1: two yards with these fees and one farm at 3 and 3; its two records have these bytes
unfoldable pub equal_hauls : ℕ → ℕ → ℕ → ℕ → List ℕ
equal_hauls a b c d = yard 0 a ++ yard 1 b ++ haul_to 0 0 c 3 ++ haul_to 0 1 d 3

-- the hauls of sheet S behind these fees: farm 0: 1, 3, 9; farm 1: 5, 1, 5; farm 2: 9, 5, 1; with these bytes of loads
unfoldable pub with_fees : ℕ → ℕ → ℕ → ℕ → ℕ → ℕ → List ℕ
with_fees x y z b c d =
    yard 0 x ++ yard 1 y ++ yard 2 z
    ++ haul_to 0 0 b 1 ++ haul_to 0 1 b 3 ++ haul_to 0 2 b 9
    ++ haul_to 1 0 c 5 ++ haul_to 1 1 c 1 ++ haul_to 1 2 c 5
    ++ haul_to 2 0 d 9 ++ haul_to 2 1 d 5 ++ haul_to 2 2 d 1

-- sheet S, fees 1, 4, 2
unfoldable pub loaded : ℕ → ℕ → ℕ → List ℕ
loaded = with_fees 1 4 2

unfoldable pub sheet_s : List ℕ
sheet_s = loaded 0 0 0

-- document 02, paper 3: one farm at this distance from the only yard, which has this fee; byte 3 of its record
unfoldable pub one_distance : ℕ → ℕ → ℕ → List ℕ
one_distance fee byte3 distance = yard 0 fee ++ haul_to 0 0 byte3 distance

-- ---- the offers of document 02's paper 10

unfoldable pub offer : ℕ → ℕ → List ℕ
offer p amount = bytes_of (record_of 0x56 0 p 0 amount)

-- of three farms, in order
unfoldable pub offered : ℕ → ℕ → ℕ → List ℕ
offered x y z = offer 0 x ++ offer 1 y ++ offer 2 z

-- the second record is of this kind and has these bytes 1, 2 and 3
unfoldable pub second_is : ℕ → ℕ → ℕ → ℕ → List ℕ
second_is kind b c d = offer 0 2 ++ bytes_of (record_of kind b c d 5) ++ offer 2 3

-- ---- the tariffs

-- two bands of these rates, the second from this start up to 1000
unfoldable pub two_bands : ℕ → ℕ → ℕ → List ℕ
two_bands rate start lower = band_bytes 0 0 100 rate ++ band_bytes 1 start 1000 lower

-- one band of the highest end and the highest rate
unfoldable pub highest : List ℕ
highest = band_bytes 0 0 65535 65535

-- ---- the records of a plan

unfoldable pub opened : ℕ → ℕ → List ℕ
opened i fee = bytes_of (record_of 0x4F i 0 0 fee)

-- farm p is given yard a, and its record has this byte 3
unfoldable pub brings : ℕ → ℕ → ℕ → ℕ → List ℕ
brings p a byte3 amount = bytes_of (record_of 0x41 a p byte3 amount)

unfoldable pub served : ℕ → ℕ → ℕ → List ℕ
served p a amount = brings p a 0 amount

-- the total for so many yards and farms, and the moves
unfoldable pub ends : ℕ → ℕ → ℕ → ℕ → List ℕ
ends open_yards farm_count total moves = bytes_of (record_of 0x54 open_yards farm_count 0 total) ++ bytes_of (record_of 0x4D 0 0 0 moves)
