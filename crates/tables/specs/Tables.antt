-- The tables that the engine takes: one opening cost for each facility, and the service costs in one flat row for each client.
use Rattle.std.specs.Prelude.{ℕ, ◌+◌, ◌*◌, Bool, ◌&&◌, List, leb, ltb, length, get_or}
use Rattle.model.specs.Loops.{all_below}
use Rattle.model.specs.Instance.{Instance}
use Rattle.model.specs.Plans.{open_cost}
use Rattle.tables.specs.Bounds.{most_facilities, most_clients, most_entry, most_opening}

-- The instance of two tables. The weight of a client is a factor of its row, so that it counts once here.
unfoldable pub tabled : ℕ → ℕ → List ℕ → List ℕ → Instance
tabled m n opening service =
    record { facilities = m; clients = n; opening = λ i. get_or opening i 0; service = λ i j. get_or service (j * m + i) 0; weight = λ j. 1 }

-- what a set costs by the tables
unfoldable pub table_cost : ℕ → ℕ → List ℕ → List ℕ → ℕ → ℕ
table_cost m n opening service = open_cost (tabled m n opening service)

-- ---- what the engine takes

-- an opening cost, and an entry of a row, within their bounds
unfoldable pub opening_within : List ℕ → ℕ → Bool
opening_within opening i = leb (get_or opening i 0) most_opening

unfoldable pub entry_within : List ℕ → ℕ → Bool
entry_within service k = leb (get_or service k 0) most_entry

-- 1 to 32 facilities and at most 128 clients, tables that are long enough, and no number in them above its bound
unfoldable pub good_tables : ℕ → ℕ → List ℕ → List ℕ → Bool
good_tables m n opening service =
    (leb 1 m && (leb m most_facilities && leb n most_clients)) && ((leb m (length opening) && leb (n * m) (length service))
    && (all_below m (opening_within opening) && all_below (n * m) (entry_within service)))

-- ---- for private functions alone

-- an entry above the bound
unfoldable pub too_high_at : List ℕ → ℕ → Bool
too_high_at service k = ltb most_entry (get_or service k 0)
