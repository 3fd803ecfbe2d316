-- The table of which question 6 is asked, for private functions alone: the hauls yard by yard.
use Rattle.std.specs.Prelude.{ℕ, ◌*◌, ◌≤◌, ◌<◌, ◌≡◌, List, length, get_or}
use Rattle.four_point.specs.Table.{row_places, most_facilities, cost_limit, row}
use Rattle.questions.specs.Sheet.{haul}

-- a row for every yard that there may be, and all entries below the limit
pub record HasRows (table : List ℕ) : Type 0 where
  pub room : most_facilities * row_places ≤ length table
  pub low : (k : ℕ) → get_or table k 0 < cost_limit

-- the hauls of the first p farms, and those of farm p to the first a yards, stand in the table
pub record Filled (s : List ℕ) (m p a : ℕ) (table : List ℕ) : Type 0 where
  pub rows : HasRows table
  pub farms_before : (i q : ℕ) → i < m → q < p → row table i q ≡ haul s m i q
  pub yards_before : (i : ℕ) → i < a → row table i p ≡ haul s m i p
