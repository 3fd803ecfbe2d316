-- Laws of the search's two loops. The start: the cheapest facility is found one after the other. The search: from where it is, with
-- the limit less the moves made as fuel, it comes out as the whole search does.
use Prim.Native.Nat.{ℕ, ◌+◌, ◌-◌, ◌^◌, ◌≤◌, ◌<◌}
use native.Mathlib.Nat.{sub-zero}
use native.Mathlib.Omega.{arith}
use mathlib.Core.Path.{◌≡◌, sym, ap, ap₂, subst, ◌∙◌}
use mathlib.Core.Bool.{true, and-false}
use mathlib.Core.List.{List}
use borrow.Author.Tests.{eq-eqb, lt-ltb, le-ltb}
use lib.Dec.{eqb}
use Rattle.model.specs.Least.{arg}
use Rattle.model.specs.Search.{Among, better, next, descend}
use Rattle.model.specs.Limit.{outcome, search_within}
use Rattle.model.specs.Neighbours.{add_drop_swap}
use Rattle.model.specs.Plans.{open_start}
use Rattle.model.proofs.SetLaws.{with_none}
use Rattle.model.proofs.NeighbourLaws.{Move, swapped, among_swap, among_move}
use Rattle.model.proofs.SearchLaws.{step_among, descend_stops}
use Rattle.model.proofs.LimitLaws.{within_turn, within_full}
use Rattle.model.proofs.PlanLaws.{start_one, start_more}
use Rattle.sets.specs.Within.{with32}
use Rattle.sets.proofs.WithinLaws.{with32_below}
use Rattle.tables.specs.Tables.{tabled, table_cost}
use Rattle.engine.specs.Moves.{priced, neighbours_by}
use Rattle.engine.specs.SearchOnTables.{found}
use Rattle.engine.specs.declared.moves.Priced.{Priced}
use Rattle.engine.specs.declared.Found.TheVariants.{Stopped, Settled}
use Rattle.engine.specs.declared.Neighbourhood.{Neighbourhood}
use Rattle.engine.specs.declared.Neighbourhood.TheVariants.{AddDropSwap, Swap}
use Rattle.engine.proofs.MoveLaws.{set_of, cost_of}

-- ---- the start

module _ (cost : ℕ → ℕ) where
  -- the set of the cheapest facility below i
  unfoldable pub cheapest : ℕ → ℕ
  cheapest i = 2 ^ arg i (λ k. true) (λ k. cost (2 ^ k))

  -- what holds in the loop over the facilities
  abbrev pub Cheapest : Priced → ℕ → Type 0
  Cheapest b i = b ≡ priced cost (cheapest i)

  pub cheapest_one : (b : Priced) → b ≡ priced cost 1 → Cheapest b 1
  unfolding cheapest
  cheapest_one b e = e ∙ ap (priced cost) (start_one cost)

  pub cheapest_more : (i x : ℕ) (b r : Priced) → 1 ≤ i → i < 32 → Cheapest b i → x ≡ with32 0 i
      → r ≡ priced cost (better cost x b.set) → Cheapest r (i + 1)
  unfolding cheapest
  cheapest_more i x b r some few e x_is h =
      let single : x ≡ 2 ^ i = x_is ∙ with32_below 0 i few ∙ with_none i in
      h ∙ ap₂ (λ (y z : ℕ). priced cost (better cost y z)) single (set_of cost b (cheapest i) e)
      ∙ ap (priced cost) (start_more cost i some)

pub cheapest_all : (m n : ℕ) (opening service : List ℕ) (b : Priced) → Cheapest (table_cost m n opening service) b m
    → b ≡ priced (table_cost m n opening service) (open_start (tabled m n opening service))
unfolding cheapest open_start tabled table_cost
cheapest_all m n opening service b e = e

-- ---- the search

module _ (cost : ℕ → ℕ) (neighbours : ℕ → List ℕ) (limit start : ℕ) where
  -- b is reached from the start by these moves, and the rest of the search goes on from it
  pub record Going (b : Priced) (made : ℕ) : Type 0 where
    pub right : b ≡ priced cost b.set
    pub room : made ≤ limit
    pub same : search_within cost neighbours limit start ≡ outcome cost neighbours limit (descend cost neighbours (limit - made) b.set made)

  pub going_starts : (k : ℕ) → k ≡ cost start → Going (record { set = start; cost = k }) 0
  unfolding search_within priced
  going_starts k e =
      record {
        right = ap (λ (k : ℕ). record { set = start; cost = k }) e;
        room = omega arith;
        same = ap (λ (fuel : ℕ). outcome cost neighbours limit (descend cost neighbours fuel start 0)) (sym (sub-zero limit));
      }

  module _ (b c : Priced) (made : ℕ) (g : Going b made) (e : c ≡ priced cost (next cost neighbours b.set)) where
    b_cost : b.cost ≡ cost b.set
    b_cost = cost_of cost b b.set g.right

    c_cost : c.cost ≡ cost (next cost neighbours b.set)
    c_cost = cost_of cost c (next cost neighbours b.set) e

    falls : c.cost < b.cost → cost (next cost neighbours b.set) < cost b.set
    falls lower = rw (← c_cost, ← b_cost) lower

    pub going_on : c.cost < b.cost → made < limit → Going c (made + 1)
    going_on lower few =
        let c_set = set_of cost c (next cost neighbours b.set) e in
        record {
          right = e ∙ ap (priced cost) (sym c_set);
          room = omega arith;
          same =
              g.same ∙ ap (outcome cost neighbours limit) (within_turn cost neighbours limit b.set made few (falls lower))
              ∙ ap (λ (x : ℕ). outcome cost neighbours limit (descend cost neighbours (limit - (made + 1)) x (made + 1))) (sym c_set);
        }

    -- no move lowers the cost
    pub going_settles : b.cost ≤ c.cost
        → Settled b.set b.cost made ≡ found cost (search_within cost neighbours limit start)
    unfolding found outcome
    going_settles no_lower =
        let stays : cost b.set ≤ cost (next cost neighbours b.set) = rw (← c_cost, ← b_cost) no_lower in
        let here = g.same ∙ ap (outcome cost neighbours limit) (descend_stops cost neighbours (limit - made) b.set made stays) in
        sym (ap (found cost) here
        ∙ rw (le-ltb (cost (next cost neighbours b.set)) (cost b.set) stays, and-false (eqb made limit), b_cost))

    -- a move lowers the cost and none is left
    pub going_stops : c.cost < b.cost → limit ≤ made
        → Stopped b.set b.cost made ≡ found cost (search_within cost neighbours limit start)
    unfolding found outcome
    going_stops lower full =
        let here = g.same ∙ ap (outcome cost neighbours limit) (within_full cost neighbours limit b.set made full) in
        sym (ap (found cost) here
        ∙ rw (eq-eqb made limit (omega (arith, g.room)), lt-ltb (cost (next cost neighbours b.set)) (cost b.set) (falls lower), b_cost))

-- ---- one step

pub step_move : (moves : Neighbourhood) (m : ℕ) (cost : ℕ → ℕ) (b c : Priced) → b ≡ priced cost b.set
    → c ≡ priced cost (next cost (neighbours_by moves m) b.set) → c.cost < b.cost → Move m b.set c.set
unfolding neighbours_by add_drop_swap
step_move moves m cost b c right e lower =
    let to = next cost (neighbours_by moves m) b.set in
    let falls : cost to < cost b.set = rw (← cost_of cost c to e, ← cost_of cost b b.set right) lower in
    subst (Move m b.set) (sym (set_of cost c to e)) (by moves (step_among cost (neighbours_by moves m) b.set falls))
  where
    by : (moves : Neighbourhood) {x : ℕ} → Among x (neighbours_by moves m b.set) → Move m b.set x
    by AddDropSwap h = among_move m b.set _ h
    by Swap h =
        let r = among_swap m b.set _ h in
        swapped r.out r.into r.out_below r.out_open r.into_below r.into_shut r.is
