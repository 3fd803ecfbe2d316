-- The definitions computed on document 01's sheet S as an instance, so that a reader can see that they say what is meant.
use Prim.Native.Nat.{ℕ, zero, suc}
use mathlib.Core.Path.{◌≡◌, refl}
use mathlib.Core.Bool.{true, false, cond}
use mathlib.Core.List.{[], ◌∷◌, ◌++◌}
use lib.Dec.{eqb}
use lib.IntN.{pos, negsuc}
use Rattle.model.specs.Loops.{all_below, sum, join}
use Rattle.model.specs.Least.{any, least, arg}
use Rattle.model.specs.Sets.{member, with, without}
use Rattle.model.specs.Instance.{Instance, metric, four_point_bpq, four_point_pq, four_point_q, four_point, nearest, at_nearest, assigned, opening_cost, service_cost, total_cost}
use Rattle.model.specs.Closing.{second, second_cost, cost_at, cost_elsewhere, closing_change}
use Rattle.model.specs.Floor.{excess_at, within_at, feasible, floor, with_equal_opening}
use Rattle.model.specs.QuickMetric.{greatest, route, spread, quick_pair, quick_metric}
use Rattle.model.specs.Neighbours.{add_at, adds, drop_at, drops, swap_at, swaps_out, swaps, add_drop_swap}
use Rattle.model.specs.Search.{reached, better, best, next, descend, search}
use Rattle.model.specs.Plans.{open_cost, open_start, open_search, limited_cost, limited_start, limited_search}

-- the entry of a row at 0, at 1, and at 2 and above
abbrev row : ℕ → ℕ → ℕ → ℕ → ℕ
row a b c zero = a
row a b c (suc zero) = b
row a b c (suc (suc j)) = c

abbrev table : ℕ → ℕ → ℕ
table zero = row 1 5 9
table (suc zero) = row 3 1 5
table (suc (suc i)) = row 9 5 1

unfoldable pub example : Instance
example = record { facilities = 3; clients = 3; opening = row 1 4 2; service = table; weight = λ j. 1 }

pub example_metric : metric example ≡ true
unfolding example metric four_point_bpq four_point_pq four_point_q four_point all_below
example_metric = refl

-- the quicker test on S, and on document 01's two yards: farm 0 at 1 and 1, farm 1 at 1 and 3 or at 1 and 4
abbrev two_yards_lem : ℕ → Instance
two_yards_lem x = record { facilities = 2; clients = 2; opening = row 0 0 0; service = λ i. row 1 (row 1 x 0 i) 0; weight = λ j. 1 }

example_quick : (quick_metric example ≡ true) × (quick_metric (two_yards_lem 3) ≡ true) × (quick_metric (two_yards_lem 4) ≡ false)
unfolding example quick_metric quick_pair route spread greatest least any all_below
example_quick = (refl, refl, refl)

-- client 1 is as near to 0 as to 2, which costs more to open, and is assigned to 0
example_tie : assigned example (member 5) 1 ≡ 0
unfolding example member assigned at_nearest nearest least arg any
example_tie = refl

-- "Two yards with fees 4 and 2 and one farm at 3 and 3: pricing both gives yard 1" (document 02, paper 1). With fees 2 and 2 it gives yard
-- 0, and at 3 and 4 yard 0 whatever the fees are.
two_fees : ℕ → ℕ → ℕ → ℕ → Instance
two_fees a b x y = record { facilities = 2; clients = 1; opening = row a b 0; service = λ i j. row x y 0 i; weight = λ j. 1 }

example_cheaper : (assigned (two_fees 4 2 3 3) (member 3) 0 ≡ 1) × (assigned (two_fees 2 2 3 3) (member 3) 0 ≡ 0)
    × (assigned (two_fees 4 2 3 4) (member 3) 0 ≡ 0)
unfolding two_fees member assigned at_nearest nearest least arg any
example_cheaper = (refl, refl, refl)

-- "It starts at {1} with 13, goes to {1, 2} with 11; then adding 0 and swapping 1 for 0 both give 10, and the add is earlier."
example_start : open_start example ≡ 2
unfolding example open_start open_cost total_cost opening_cost service_cost nearest member least arg any sum
example_start = refl

-- the sets 2, 6, 7 and 5 are {1}, {1, 2}, {0, 1, 2} and {0, 2}
example_costs : (open_cost example 2 ≡ 13) × (open_cost example 6 ≡ 11) × (open_cost example 7 ≡ 10) × (open_cost example 5 ≡ 10)
unfolding example open_cost total_cost opening_cost service_cost nearest member least any sum
example_costs = (refl, refl, refl, refl)

example_steps : (next (open_cost example) (add_drop_swap 3) 2 ≡ 6) × (next (open_cost example) (add_drop_swap 3) 6 ≡ 7)
unfolding example open_cost total_cost opening_cost service_cost nearest member least any sum next best better add_drop_swap adds add_at drops drop_at swaps swaps_out swap_at with without join
example_steps = (refl, refl)

example_open : open_search example 2 ≡ reached 7 2
unfolding example open_search open_cost total_cost opening_cost service_cost nearest member least any sum search descend next best better add_drop_swap adds add_at drops drop_at swaps swaps_out swap_at with without join
example_open = refl

-- k = 1: yard 1, 1 move; k = 2: yards 1 and 2, 1 move; k = 3: all, 0 moves
example_one : limited_search example (limited_start 1) ≡ reached 2 1
unfolding example limited_search limited_start limited_cost service_cost nearest member least any sum search descend next best better swaps swaps_out swap_at with without join
example_one = refl

example_two : limited_search example (limited_start 2) ≡ reached 6 1
unfolding example limited_search limited_start limited_cost service_cost nearest member least any sum search descend next best better swaps swaps_out swap_at with without join
example_two = refl

example_three : limited_search example (limited_start 3) ≡ reached 7 0
unfolding example limited_search limited_start limited_cost service_cost nearest member least any sum search descend next best better swaps swaps_out swap_at with without join
example_three = refl

-- ---- the order of the moves

-- Document 02, paper 2: S with 2, 1 and 3 loads. Yard 1 alone hauls for 2 * 3 + 1 * 1 + 3 * 5; the rule is about one load.
loaded : Instance
loaded = record { facilities = 3; clients = 3; opening = row 1 4 2; service = table; weight = row 2 1 3 }

example_loads : (service_cost loaded (member 2) ≡ 22) × (total_cost loaded (member 2) ≡ 26) × (metric loaded ≡ true)
unfolding loaded total_cost opening_cost service_cost nearest member least any sum metric four_point_bpq four_point_pq four_point_q four_point all_below
example_loads = (refl, refl, refl)

-- Document 02, paper 5. Of yards 0, 1 and 2 of S, farm 1's second is yard 0 at 5, as near as yard 2 and cheaper.
example_second : (second example (member 7) 1 ≡ 0) × (second_cost example (member 7) 1 ≡ 5)
unfolding example second second_cost assigned at_nearest nearest member least arg any
example_second = (refl, refl)

-- There shutting yard 0 costs 1 more and shutting yard 1 changes nothing. Of the two yards of fees 4 and 2 to which the farm is as near, shutting yard 0
-- saves 4. Of yards 0 and 1 with 2, 1 and 3 loads, shutting yard 1 saves its fee 4, and farms 1 and 2 cost 1 * 4 and 3 * 4 more.
example_closing : (closing_change example (member 7) 0 ≡ pos 1) × (closing_change example (member 7) 1 ≡ pos 0)
    × (closing_change (two_fees 4 2 3 3) (member 3) 0 ≡ negsuc 3) × (closing_change loaded (member 3) 1 ≡ pos 12)
unfolding example two_fees loaded closing_change cost_at cost_elsewhere second_cost assigned at_nearest nearest member least arg any sum
example_closing = (refl, refl, refl, refl)

-- Document 02, paper 10. On S amounts of 2, 5 and 3 offer each yard just its fee, and come to 10, so that the open plan's 10 is the least there is;
-- with one cent more of any of them a yard is overbid.
example_floor : (feasible example (row 2 5 3) ≡ true) × (floor example (row 2 5 3) ≡ 10) × (feasible example (row 3 5 3) ≡ false)
    × (feasible example (row 2 6 3) ≡ false) × (feasible example (row 2 5 4) ≡ false)
unfolding example feasible within_at excess_at floor all_below sum
example_floor = (refl, refl, refl, refl, refl)

-- With 2, 1 and 3 loads 1, 5 and 1 come to 2 + 5 + 3. One cent more of farm 0, which yard 0 is offered twice, is above its fee 1.
example_floor_loads : (feasible loaded (row 1 5 1) ≡ true) × (floor loaded (row 1 5 1) ≡ 10) × (feasible loaded (row 2 5 1) ≡ false)
unfolding loaded feasible within_at excess_at floor all_below sum
example_floor_loads = (refl, refl, refl)

-- Lists of one yard: with every fee set to 4, amounts of 3, 5 and 5 are feasible and come to 13, so that no yard hauls for less than 13 - 4; yard 1 does
-- for 9.
example_floor_limited : (feasible (with_equal_opening 4 example) (row 3 5 5) ≡ true) × (floor example (row 3 5 5) ≡ 13) × (service_cost example (member 2) ≡ 9)
unfolding example feasible within_at excess_at floor all_below service_cost nearest member least any sum
example_floor_limited = (refl, refl, refl)

-- From {1, 2} of four: the adds of 0 and 3, the drops of 1 and 2, then the swaps by the number going out and by the number coming in: 0 and
-- 3 for 1, 0 and 3 for 2.
example_order : add_drop_swap 4 6 ≡ 7 ∷ 14 ∷ 4 ∷ 2 ∷ 5 ∷ 12 ∷ 3 ∷ 10 ∷ []
unfolding add_drop_swap adds add_at drops drop_at swaps swaps_out swap_at with without member sum join
example_order = refl

-- where every neighbour costs the same, the first is gone to: of all moves an add, of drops and swaps a drop, of swaps the first
example_first : (next (λ set. cond (eqb set 6) 1 0) (add_drop_swap 4) 6 ≡ 7)
    × (best (λ set. cond (eqb set 6) 1 0) 6 (drops 4 6 ++ swaps 4 6) ≡ 4) × (next (λ set. cond (eqb set 6) 1 0) (swaps 4) 6 ≡ 5)
unfolding next best better add_drop_swap adds add_at drops drop_at swaps swaps_out swap_at with without member sum join
example_first = (refl, refl, refl)

-- Hauls that cost nothing. From {1, 2} at fees 0, 2 and 2, both drops and both swaps save 2: yard 1 is dropped. From {0, 1} of a
-- limited plan, where yards 2 and 3 serve the one farm for nothing and the others for 2, every swap saves 2: yard 2 comes in for 0.
free : Instance
free = record { facilities = 3; clients = 1; opening = row 0 2 2; service = λ i j. 0; weight = λ j. 1 }

near : ℕ → ℕ
near zero = 2
near (suc zero) = 2
near (suc (suc i)) = 0

one_farm_lem : Instance
one_farm_lem = record { facilities = 4; clients = 1; opening = λ i. 0; service = λ i j. near i; weight = λ j. 1 }

example_ties : (next (open_cost free) (add_drop_swap 3) 6 ≡ 4) × (next (limited_cost one_farm_lem) (swaps 4) 3 ≡ 6)
unfolding free one_farm_lem near open_cost limited_cost total_cost opening_cost service_cost nearest member least any sum next best better add_drop_swap adds add_at drops drop_at swaps swaps_out swap_at with without join
example_ties = (refl, refl)
