-- The definitions for document 02, from paper 7 on, computed on sheet S (`Example`), so that a reader can see that they say what is meant.
use Prim.Native.Nat.{ℕ}
use mathlib.Core.Path.{◌≡◌, refl}
use mathlib.Core.Bool.{Bool, true, false}
use Rattle.model.specs.Loops.{sum, join}
use Rattle.model.specs.Least.{any, least}
use Rattle.model.specs.Sets.{member, with, without}
use Rattle.model.specs.Instance.{nearest, opening_cost, service_cost, total_cost}
use Rattle.model.specs.Neighbours.{add_at, adds, drop_at, drops, swap_at, swaps_out, swaps, add_drop_swap}
use Rattle.model.specs.Search.{better, best, next, descend}
use Rattle.model.specs.Limit.{Outcome, outcome, search_within}
use Rattle.model.specs.Plans.{open_cost}
use Rattle.model.specs.PlansWithin.{open_search_within}
use Rattle.model.proofs.Example.{example}

-- ---- paper 7, a limit on moves: from {1} the open search of S goes to {1, 2} and to all. With two moves it is settled, though all that it may were made.

abbrev ended : Bool → ℕ → ℕ → Outcome
ended stopped set steps = record { stopped = stopped; set = set; steps = steps }

pub example_within : (open_search_within example 0 2 ≡ ended true 2 0) × (open_search_within example 1 2 ≡ ended true 6 1)
    × (open_search_within example 2 2 ≡ ended false 7 2) × (open_search_within example 3 2 ≡ ended false 7 2)
unfolding example open_search_within search_within outcome open_cost total_cost opening_cost service_cost nearest member least any sum descend next best better add_drop_swap adds add_at drops drop_at swaps swaps_out swap_at with without join
example_within = (refl, refl, refl, refl)
