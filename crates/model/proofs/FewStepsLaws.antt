-- A search among the numbers below n makes fewer than n steps, so a limit of n - 1 or more never stops it.
-- Idea: with each step fewer sets below n cost less than the present one.
use Prim.Native.Nat.{ℕ, zero, suc, ◌+◌, ◌≤◌, ◌<◌}
use native.Mathlib.Nat.{le_refl, lt_trans}
use native.Mathlib.Omega.{arith}
use native.Mathlib.Decide.{dec_lt}
use mathlib.Core.Path.{◌≡◌}
use mathlib.Core.Bool.{Bool, false}
use mathlib.Core.List.{List}
use borrow.Author.Tests.{ltb-true, lt-ltb, le-ltb}
use lib.Dec.{ltb}
use Rattle.model.specs.Sets.{count}
use Rattle.model.specs.Search as Search
use Rattle.model.specs.Search.{Among}
use Rattle.model.specs.Limit.{search_within}
use Rattle.model.proofs.Bools.{fails}
use Rattle.model.proofs.CountLaws.{count_some, count_missing, count_fewer}
use Rattle.model.proofs.SearchLaws.{step_among, descend_stops, descend_moves, descend_keeps}
use Rattle.model.proofs.LimitLaws.{within_set, within_steps, stopped_steps, stopped_next}

-- is x cheaper than `set`
cheaper : (ℕ → ℕ) → ℕ → ℕ → Bool
cheaper cost set x = ltb (cost x) (cost set)

module _ (cost : ℕ → ℕ) (neighbours : ℕ → List ℕ) (n : ℕ) (keeps : (set x : ℕ) → set < n → Among x (neighbours set) → x < n) where
  -- a step leaves fewer sets that are cheaper
  step_fewer : (set : ℕ) → set < n → cost (Search.next cost neighbours set) < cost set
      → count n (cheaper cost (Search.next cost neighbours set)) < count n (cheaper cost set)
  unfolding cheaper
  step_fewer set small lower =
      let to = Search.next cost neighbours set in
      count_fewer n to (cheaper cost to) (cheaper cost set) (keeps set to small (step_among cost neighbours set lower))
      (λ i l e. lt-ltb (cost i) (cost set) (lt_trans (ltb-true (cost i) (cost to) e) lower))
      (le-ltb (cost to) (cost to) (le_refl (cost to))) (lt-ltb (cost to) (cost set) lower)

  -- the steps of a search of any length, and the cheaper sets that are left
  descend_fewer : (fuel set steps : ℕ) → set < n
      → (Search.descend cost neighbours fuel set steps).steps + count n (cheaper cost (Search.descend cost neighbours fuel set steps).set)
      ≤ steps + count n (cheaper cost set)
  unfolding Search.descend
  descend_fewer zero set steps small = le_refl (steps + count n (cheaper cost set))
  descend_fewer (suc fuel) set steps small =
      elim (dec_lt (cost (Search.next cost neighbours set)) (cost set)) [
        | yes l ↦
            rw (descend_moves cost neighbours fuel set steps l)
            (omega (
              arith,
              step_fewer set small l,
              descend_fewer fuel (Search.next cost neighbours set) (suc steps)
                  (keeps set (Search.next cost neighbours set) small (step_among cost neighbours set l)),
            ))
        | no g ↦ rw (descend_stops cost neighbours (suc fuel) set steps (omega arith)) (le_refl (steps + count n (cheaper cost set)))
      ]

  pub descend_few : (limit start : ℕ) → start < n → (Search.descend cost neighbours limit start 0).steps < n
  unfolding cheaper
  descend_few limit start small =
      omega (
        arith,
        descend_fewer limit start 0 small,
        count_missing n start (cheaper cost start) small (le-ltb (cost start) (cost start) (le_refl (cost start))),
      )

  -- a limit that is not below n - 1 never stops a search: an unbroken one is the search within that limit
  pub never_stopped : (limit start : ℕ) → start < n → n ≤ suc limit → (search_within cost neighbours limit start).stopped ≡ false
  unfolding cheaper
  never_stopped limit start small enough =
      fails (λ h.
      let set = (Search.descend cost neighbours limit start 0).set in
      let to = Search.next cost neighbours set in
      let lower : cost to < cost set = rw (within_set cost neighbours limit start) at (stopped_next cost neighbours limit start h) in
      let below : to < n = keeps set to (descend_keeps cost neighbours (λ x. x < n) keeps limit start 0 small) (step_among cost neighbours set lower) in
      omega (
        arith,
        stopped_steps cost neighbours limit start h,
        within_steps cost neighbours limit start,
        descend_fewer limit start 0 small,
        count_some n to (cheaper cost set) below (lt-ltb (cost to) (cost set) lower),
        count_missing n start (cheaper cost start) small (le-ltb (cost start) (cost start) (le_refl (cost start))),
      ))
