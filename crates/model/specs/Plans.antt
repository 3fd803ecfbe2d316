-- The two searches of document 01 ("Price, start, moves") on an instance: what they go by, where they start, their moves.
use Rattle.std.specs.Prelude.{ℕ, ◌-◌, ◌^◌, true}
use Rattle.model.specs.Least.{arg}
use Rattle.model.specs.Sets.{member}
use Rattle.model.specs.Instance.{Instance, service_cost, total_cost}
use Rattle.model.specs.Neighbours.{swaps, add_drop_swap}
use Rattle.model.specs.Search.{Reached, search}

-- "Open plan, by full cost."
unfoldable pub open_cost : Instance → ℕ → ℕ
open_cost I set = total_cost I (member set)

-- "Start: the single yard of least full cost, lowest number among equals."
unfoldable pub open_start : Instance → ℕ
open_start I = 2 ^ arg I.facilities (λ i. true) (λ i. open_cost I (2 ^ i))

-- from any start
unfoldable pub open_search : Instance → ℕ → Reached
open_search I start = search (open_cost I) (add_drop_swap I.facilities) start

-- "Limited plan, by haul cost; fees do not count."
unfoldable pub limited_cost : Instance → ℕ → ℕ
limited_cost I set = service_cost I (member set)

-- "Start: yards 0 to k − 1."
unfoldable pub limited_start : ℕ → ℕ
limited_start k = 2 ^ k - 1

-- "Moves: swaps alone, same order."
unfoldable pub limited_search : Instance → ℕ → Reached
limited_search I start = search (limited_cost I) (swaps I.facilities) start
