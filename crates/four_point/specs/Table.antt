-- A table of service costs, facility by facility, and whether it keeps the four-point rule.
use Rattle.std.specs.Prelude.{ℕ, ◌+◌, ◌*◌, Bool, ◌&&◌, List, length, get_or, leb, ltb}
use Rattle.model.specs.Loops.{all_below}
use Rattle.model.specs.Instance.{Instance, metric}

-- a row has a place for each of so many clients
abbrev pub row_places : ℕ
row_places = 128

abbrev pub most_facilities : ℕ
most_facilities = 32

-- every cost is below this
abbrev pub cost_limit : ℕ
cost_limit = 1048576

-- facility a's row: its service costs, client by client
abbrev pub row : List ℕ → ℕ → ℕ → ℕ
row table a p = get_or table (row_places * a + p) 0

-- The instance of which the table has the service costs. The rule is about those alone.
unfoldable pub table_instance : List ℕ → ℕ → ℕ → Instance
table_instance table m n = record { facilities = m; clients = n; opening = λ i. 0; service = row table; weight = λ j. 1 }

-- the rows of m facilities hold costs below the limit alone
unfoldable pub costs_below : List ℕ → ℕ → Bool
costs_below table m = all_below (row_places * m) (λ k. ltb (get_or table k 0) cost_limit)

-- Metric service costs, of a table of m facilities and n clients. No, too, for a table that is none: with too many of either,
-- with fewer rows, or with a cost that reaches the limit.
unfoldable pub keeps_rule : List ℕ → ℕ → ℕ → Bool
keeps_rule table m n =
    leb m most_facilities && leb n row_places && leb (row_places * m) (length table) && costs_below table m && metric (table_instance table m n)
