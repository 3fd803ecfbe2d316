-- The two searches of document 01 on an instance, from any start and with a limit on moves (document 02, paper 7).
use Rattle.std.specs.Prelude.{ℕ}
use Rattle.model.specs.Instance.{Instance}
use Rattle.model.specs.Neighbours.{swaps, add_drop_swap}
use Rattle.model.specs.Limit.{Outcome, search_within}
use Rattle.model.specs.Plans.{open_cost, limited_cost}

unfoldable pub open_search_within : Instance → ℕ → ℕ → Outcome
open_search_within I limit start = search_within (open_cost I) (add_drop_swap I.facilities) limit start

unfoldable pub limited_search_within : Instance → ℕ → ℕ → Outcome
limited_search_within I limit start = search_within (limited_cost I) (swaps I.facilities) limit start
