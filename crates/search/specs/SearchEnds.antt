-- Where the searches of the two plans end, and the plan of such a set.
use Rattle.std.specs.Prelude.{ℕ}
use Rattle.model.specs.Instance.{Instance}
use Rattle.model.specs.Search.{Reached}
use Rattle.model.specs.Plans.{open_cost, open_start, open_search, limited_cost, limited_start, limited_search}
use Rattle.price.specs.Pricing.{Plan, plan}

-- where a search ends: the set, its cost, and the moves made
pub record Settled : Type 0 where
  pub set : ℕ
  pub cost : ℕ
  pub moves : ℕ

-- what a search reached, with the cost of its set
unfoldable pub settled_at : (ℕ → ℕ) → Reached → Settled
settled_at cost r = record { set = r.set; cost = cost r.set; moves = r.steps }

-- where document 01's searches end: from the single facility of least cost, and from the first k
unfoldable pub open_end : Instance → Settled
open_end I = settled_at (open_cost I) (open_search I (open_start I))

unfoldable pub limited_end : Instance → ℕ → Settled
limited_end I k = settled_at (limited_cost I) (limited_search I (limited_start k))

-- the plan of the set that a search settled on, with byte 3 of each farm's record
unfoldable pub plan_of : Instance → (ℕ → ℕ) → Settled → Plan
plan_of I byte3 r = plan I byte3 r.set r.cost r.moves
