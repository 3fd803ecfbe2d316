-- The table in units of 64, rounded down, in which most pairs of facilities are settled; for private functions alone.
use Rattle.std.specs.Prelude.{ℕ, ◌-◌, ◌*◌, ◌/◌, ◌%◌, ◌≤◌, ◌<◌, ◌≡◌, Bool, List, length, get_or, ltb}
use Rattle.model.specs.Loops.{all_below, sum}
use Rattle.model.specs.QuickMetric.{spread, quick_pair, route_from}
use Rattle.four_point.specs.Table.{row_places, most_facilities, cost_limit, row}

abbrev pub unit : ℕ
unit = 64

-- every cost in units is below this
abbrev pub unit_limit : ℕ
unit_limit = 16384

-- the first so many places of the table in units, below their limit
abbrev pub InUnits : ℕ → List ℕ → List ℕ → Type 0
InUnits count table units = (k : ℕ) → k < count → get_or units k 0 ≡ get_or table k 0 / unit % unit_limit

-- what the first so many costs are above their limit, in whole limits
unfoldable pub above_limit : List ℕ → ℕ → ℕ
above_limit table count = sum count (λ k. get_or table k 0 / cost_limit)

-- the first n entries of facility a's row are below a limit
abbrev pub RowBelow : ℕ → List ℕ → ℕ → ℕ → Type 0
RowBelow limit table n a = (p : ℕ) → p < n → row table a p < limit

-- a table of m facilities and n clients, and the same in units
pub record Rounded (m n : ℕ) (table units : List ℕ) : Type 0 where
  pub few_facilities : m ≤ most_facilities
  pub few_clients : n ≤ row_places
  pub room : row_places * m ≤ length table
  pub units_room : row_places * m ≤ length units
  pub low : (k : ℕ) → k < row_places * m → get_or table k 0 < cost_limit
  pub in_units : (k : ℕ) → k < row_places * m → get_or units k 0 ≡ get_or table k 0 / unit

-- in units no client's costs at facilities a and b differ by as much as the cheapest route between them
unfoldable pub pair_settled : List ℕ → ℕ → ℕ → ℕ → Bool
pair_settled units n a b = ltb (spread n (row units a) (row units b)) (route_from (2 * unit_limit - 1) n (row units a) (row units b))

-- the rule of facilities a and b; and of a and every facility before it
unfoldable pub pair_keeps : List ℕ → ℕ → ℕ → ℕ → Bool
pair_keeps table n a b = quick_pair n (row table a) (row table b)

unfoldable pub row_keeps : List ℕ → ℕ → ℕ → Bool
row_keeps table n a = all_below a (pair_keeps table n a)
