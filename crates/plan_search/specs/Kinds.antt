-- The kinds of plans that are searched: the cost that each search goes by, its moves, how it comes out, and the total that its plan shows.
use Rattle.std.specs.Prelude.{ℕ, List}
use Rattle.model.specs.Instance.{Instance}
use Rattle.model.specs.Neighbours.{swaps, add_drop_swap}
use Rattle.model.specs.Limit.{Outcome, search_within}
use Rattle.model.specs.Plans.{open_cost, limited_cost}
use Rattle.starts.specs.Starts.{start_by}
use Rattle.plan_search.specs.declared.PlanKind.{PlanKind}
use Rattle.plan_search.specs.declared.PlanKind.TheVariants.{Open, Limited}
use Rattle.starts.specs.declared.PlanStart.{PlanStart}

-- "Open plan, by full cost." "Limited plan, by haul cost; fees do not count."
unfoldable pub cost_by_kind : PlanKind → Instance → ℕ → ℕ
cost_by_kind Open I = open_cost I
cost_by_kind Limited I = limited_cost I

-- the sets that one move makes of a set of m facilities
unfoldable pub moves_by : PlanKind → ℕ → ℕ → List ℕ
moves_by Open m = add_drop_swap m
moves_by Limited m = swaps m

-- "The total: full cost for an open plan .., haul cost for a limited plan".
unfoldable pub total_by : PlanKind → Instance → ℕ → ℕ
total_by Open I = open_cost I
total_by Limited I = limited_cost I

-- The search with at most `limit` moves: whether it was stopped, the set reached, the moves made.
unfoldable pub outcome_by : PlanKind → PlanStart → ℕ → Instance → Outcome
outcome_by kind start limit I =
    search_within (cost_by_kind kind I) (moves_by kind I.facilities) limit (start_by start (cost_by_kind kind I) I.facilities)
