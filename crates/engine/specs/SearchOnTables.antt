-- What the engine's call answers: the search of the model with a limit on moves, by the total cost of the tables' instance.
use Rattle.std.specs.Prelude.{ℕ, ◌^◌, Bool, true, cond, ◌&&◌, List, leb, ltb, Option, Some, None}
use Rattle.model.specs.Instance.{Instance}
use Rattle.model.specs.Limit.{Outcome, search_within}
use Rattle.model.specs.Plans.{open_start}
use Rattle.tables.specs.Tables.{tabled, table_cost, good_tables}
use Rattle.engine.specs.Moves.{neighbours_by}
use Rattle.engine.specs.declared.Neighbourhood.{Neighbourhood}
use Rattle.engine.specs.declared.Start.{Start}
use Rattle.engine.specs.declared.Start.TheVariants.{Cheapest, Set}
use Rattle.engine.specs.declared.Found.{Found}
use Rattle.engine.specs.declared.service.Tables.{Tables}
use Rattle.engine.specs.declared.Found.TheVariants.{Stopped, Settled}

-- what a set costs by the tables of a search, and their instance
abbrev pub cost_by : Tables → ℕ → ℕ
cost_by t = table_cost t.service.m t.service.n t.opening.now t.service.costs.now

abbrev pub instance_of : Tables → Instance
instance_of t = tabled t.service.m t.service.n t.opening.now t.service.costs.now

-- a set to begin at is one of facilities that has one
unfoldable pub good_start : ℕ → Start → Bool
good_start m Cheapest = true
good_start m (Set set) = leb 1 set && ltb set (2 ^ m)

-- where a search begins
unfoldable pub start_set : Start → Instance → ℕ
start_set Cheapest I = open_start I
start_set (Set set) I = set

-- the model's outcome as the engine answers it, with the cost of the set
unfoldable pub found : (ℕ → ℕ) → Outcome → Found
found cost r = cond r.stopped (Stopped r.set (cost r.set) r.steps) (Settled r.set (cost r.set) r.steps)

-- the search with at most `limit` moves; none where the tables or the start are not good
unfoldable pub searching : Neighbourhood → Start → ℕ → List ℕ → List ℕ → ℕ → ℕ → Option Found
searching moves start limit opening service m n =
    cond (good_tables m n opening service && good_start m start)
    (Some (found (table_cost m n opening service)
    (search_within (table_cost m n opening service) (neighbours_by moves m) limit (start_set start (tabled m n opening service)))))
    None
