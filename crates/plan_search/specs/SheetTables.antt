-- The tables that a sheet is read into, for private functions alone: one opening cost for each yard, and one flat row for each farm, of its hauls times
-- its loads; each so many times.
use Rattle.std.specs.Prelude.{ℕ, ◌*◌, ◌/◌, ◌%◌, ◌<◌, ◌≡◌, List, get_or}
use Rattle.questions.specs.Sheet.{fee, haul, farm_byte, loads_of}

-- the first so many places of a table hold these numbers
abbrev pub Holds : (ℕ → ℕ) → ℕ → List ℕ → Type 0
Holds f count table = (k : ℕ) → k < count → get_or table k 0 ≡ f k

-- what a factor is at most
abbrev pub most_factor : ℕ
most_factor = 1

unfoldable pub scaled_fee : ℕ → List ℕ → ℕ → ℕ
scaled_fee factor s i = factor * fee s i

-- place k of the rows, that of yard k % m in the row of farm k / m: "hauls count times loads in every cost" (document 02, paper 2)
unfoldable pub scaled_haul : ℕ → List ℕ → ℕ → ℕ → ℕ
scaled_haul factor s m k = factor * loads_of (farm_byte s m (k / m)) * haul s m (k % m) (k / m)
