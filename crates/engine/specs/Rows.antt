-- The rows of service costs, the sums of their columns, and rows of prices, for private functions alone.
use Rattle.std.specs.Prelude.{ℕ, ◌+◌, ◌*◌, ◌≤◌, ◌<◌, ◌≡◌, Bool, List, leb, length, get_or}
use Rattle.model.specs.Loops.{sum}
use Rattle.tables.specs.Bounds.{most_facilities, most_clients, most_entry}
use Rattle.engine.specs.Bounds.{most_served, most_added, added_from, loss_from}

-- the entry of facility i in client j's row; past the row's end, entries of the rows behind it, which no move goes by
abbrev pub entry : ℕ → List ℕ → ℕ → ℕ → ℕ
entry m service j i = get_or service (j * m + i) 0

-- the rows of n clients, with 32 entries behind the last one's start: no entry is above the bound
pub record Rows (m n : ℕ) (service : List ℕ) : Type 0 where
  pub few_facilities : m ≤ most_facilities
  pub few_clients : n ≤ most_clients
  pub room : n * m + most_facilities ≤ length service
  pub within : (k : ℕ) → get_or service k 0 ≤ most_entry

-- ---- the sums of columns

-- the sums from `added_from` on, one for each column, can take on a row
pub record Addable (width : ℕ) (service : List ℕ) (row : ℕ) (kept : List ℕ) : Type 0 where
  pub row_room : row + width ≤ length service
  pub room : added_from + width ≤ length kept
  pub costs : (i : ℕ) → i < width → get_or service (row + i) 0 ≤ most_entry
  pub small : (i : ℕ) → i < width → get_or kept (added_from + i) 0 ≤ most_served

-- so many of them have taken on a row, and the other places are as they were
pub record RowAdded (count : ℕ) (service : List ℕ) (row : ℕ) (before after : List ℕ) : Type 0 where
  pub inside : (i : ℕ) → i < count → get_or after (added_from + i) 0 ≡ get_or before (added_from + i) 0 + get_or service (row + i) 0
  pub below : (k : ℕ) → k < added_from → get_or after k 0 ≡ get_or before k 0
  pub above : (k : ℕ) → added_from + count ≤ k → get_or after k 0 ≡ get_or before k 0

-- but for these 32 sums a table is as it was
pub record Aside (before after : List ℕ) : Type 0 where
  pub below : (k : ℕ) → k < added_from → get_or after k 0 ≡ get_or before k 0
  pub above : (k : ℕ) → loss_from ≤ k → get_or after k 0 ≡ get_or before k 0

-- they are zeros
abbrev pub NoSums : List ℕ → Type 0
NoSums kept = (i : ℕ) → i < most_facilities → get_or kept (added_from + i) 0 ≡ 0

-- they are the sums of 32 columns over n rows
abbrev pub ColumnSums : ℕ → ℕ → List ℕ → List ℕ → Type 0
ColumnSums m n service kept = (i : ℕ) → i < most_facilities → get_or kept (added_from + i) 0 ≡ sum n (λ j. entry m service j i)

-- ---- prices of a row of moves

-- two tables and a number, to be added up place by place
pub record Adding (opened : ℕ) (opening kept costs : List ℕ) : Type 0 where
  pub opening_room : most_facilities ≤ length opening
  pub kept_room : loss_from ≤ length kept
  pub costs_room : most_facilities ≤ length costs
  pub small : (i : ℕ) → i < most_facilities → opened + get_or opening i 0 + get_or kept (added_from + i) 0 ≤ most_added

abbrev pub Added : ℕ → ℕ → List ℕ → List ℕ → List ℕ → Type 0
Added count opened opening kept costs = (i : ℕ) → i < count → get_or costs i 0 ≡ opened + get_or opening i 0 + get_or kept (added_from + i) 0

-- from a place of `more` on there are 32, each to be added to the cost of an add
pub record Row (more : List ℕ) (at : ℕ) (costs : List ℕ) : Type 0 where
  pub more_room : at + most_facilities ≤ length more
  pub costs_room : most_facilities ≤ length costs
  pub more_small : (i : ℕ) → i < most_facilities → get_or more (at + i) 0 ≤ most_served
  pub costs_small : (i : ℕ) → i < most_facilities → get_or costs i 0 ≤ most_added

-- is the price at place i of the row not below the bound
unfoldable pub dear_at : List ℕ → ℕ → List ℕ → ℕ → ℕ → Bool
dear_at more at costs bound i = leb bound (get_or more (at + i) 0 + get_or costs i 0)
