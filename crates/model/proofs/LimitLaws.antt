-- Laws of a search with a limit on moves: when it is stopped and when settled, what a settled one has reached, and how a stopped one goes on.
-- Idea: a search that has made fewer steps than it may has no step left; a settled one is the unbroken search by `continued`.
use Prim.Native.Nat.{ℕ, zero, suc, ◌+◌, ◌-◌, ◌≤◌, ◌<◌}
use native.Mathlib.Nat.{add-zero}
use native.Mathlib.Numerals.{add-one}
use native.Mathlib.Omega.{arith}
use native.Mathlib.Decide.{dec_lt}
use mathlib.Core.Path.{◌≡◌, refl, sym, ap, ◌∙◌}
use mathlib.Core.Bool.{true, false}
use mathlib.Core.List.{List}
use borrow.Author.Tests.{eqb-true, eq-eqb, ltb-true, lt-ltb}
use lib.Dec.{eqb, ltb}
use Rattle.model.specs.Passing.{through}
use Rattle.model.specs.Search as Search
use Rattle.model.specs.Search.{Among, Reached, reached, NoLower}
use Rattle.model.specs.Limit as Limit
use Rattle.model.specs.Limit.{Outcome}
use Rattle.model.proofs.Bools.{fails, clash, and_left, and_right, and_both}
use Rattle.model.proofs.SearchLaws.{step_among, no_step, next_stays, descend_stops, descend_moves, descend_keeps, never_dearer, descend_adds, continued}

module _ (cost : ℕ → ℕ) (neighbours : ℕ → List ℕ) where
  -- short names for the search by this cost and these neighbours
  abbrev next : ℕ → ℕ
  next = Search.next cost neighbours

  abbrev descend : ℕ → ℕ → ℕ → Reached
  descend = Search.descend cost neighbours

  abbrev search : ℕ → Reached
  search = Search.search cost neighbours

  abbrev within : ℕ → ℕ → Outcome
  within = Limit.search_within cost neighbours

  -- ---- how many steps a search of at most `fuel` makes

  descend_within : (fuel set steps : ℕ) → (descend fuel set steps).steps ≤ fuel + steps
  unfolding Search.descend
  descend_within zero set steps = omega arith
  descend_within (suc fuel) set steps =
      elim (dec_lt (cost (next set)) (cost set)) [
        | yes l ↦ rw (descend_moves cost neighbours fuel set steps l) (omega (arith, descend_within fuel (next set) (suc steps)))
        | no g ↦ rw (descend_stops cost neighbours (suc fuel) set steps (omega arith)) (omega arith)
      ]

  -- the set after so many steps: where no step is left, `next` stays
  descend_after : (fuel start : ℕ) → (descend fuel start 0).set ≡ through fuel (λ i. next) start
  unfolding Search.descend through
  descend_after zero start = refl
  descend_after (suc fuel) start =
      let r = descend fuel start 0 in
      ap (λ k. (descend k start 0).set) (sym (add-one fuel)) ∙ ap (λ (q : Reached). q.set) (descend_adds cost neighbours fuel 1 start 0)
      ∙ (one r.set r.steps ∙ ap next (descend_after fuel start))
    where
      one : (set steps : ℕ) → (descend 1 set steps).set ≡ next set
      one set steps =
          elim (dec_lt (cost (next set)) (cost set)) [
            | yes l ↦ rw (descend_moves cost neighbours 0 set steps l)
            | no g ↦
                let h : cost set ≤ cost (next set) = omega arith in
                rw (descend_stops cost neighbours 1 set steps h) (sym (next_stays cost neighbours set h))
          ]

  -- if a step is left all that were allowed are made
  descend_all : (fuel set steps : ℕ) → cost (next (descend fuel set steps).set) < cost (descend fuel set steps).set
      → (descend fuel set steps).steps ≡ fuel + steps
  unfolding Search.descend
  descend_all zero set steps h = omega arith
  descend_all (suc fuel) set steps h =
      elim (dec_lt (cost (next set)) (cost set)) [
        | yes l ↦
            let e = descend_moves cost neighbours fuel set steps l in
            rw e (descend_all fuel (next set) (suc steps) (rw e at h) ∙ omega arith)
        | no g ↦
            let e = descend_stops cost neighbours (suc fuel) set steps (omega arith) in
            absurd (let h2 = rw e at h in omega arith)
      ]

  module _ (limit start : ℕ) where
    abbrev got : Outcome
    got = within limit start

    -- ---- the set and the steps

    pub within_set : got.set ≡ (descend limit start 0).set
    unfolding Limit.search_within Limit.outcome
    within_set = refl

    pub within_steps : got.steps ≡ (descend limit start 0).steps
    unfolding Limit.search_within Limit.outcome
    within_steps = refl

    -- a stopped one, with `stopped_steps`, is "the one after that many moves of its search"
    pub within_after : got.set ≡ through limit (λ i. next) start
    unfolding Limit.search_within Limit.outcome
    within_after = descend_after limit start

    pub within_limit : got.steps ≤ limit
    unfolding Limit.search_within Limit.outcome
    within_limit = omega (arith, descend_within limit start 0)

    -- stopped or not, it is never dearer than its start
    pub within_never_dearer : cost got.set + got.steps ≤ cost start
    unfolding Limit.search_within Limit.outcome
    within_never_dearer = never_dearer cost neighbours limit start

    -- what neighbours keep it keeps
    pub within_keeps : (P : ℕ → Type 0) → ((set x : ℕ) → P set → Among x (neighbours set) → P x) → P start → P got.set
    unfolding Limit.search_within Limit.outcome
    within_keeps P keeps p = descend_keeps cost neighbours P keeps limit start 0 p

    -- ---- stopped

    pub stopped_steps : got.stopped ≡ true → got.steps ≡ limit
    unfolding Limit.search_within Limit.outcome
    stopped_steps h =
        let r = descend limit start 0 in
        eqb-true r.steps limit (and_left (eqb r.steps limit) (ltb (cost (next r.set)) (cost r.set)) h)

    pub stopped_next : got.stopped ≡ true → cost (next got.set) < cost got.set
    unfolding Limit.search_within Limit.outcome
    stopped_next h =
        let r = descend limit start 0 in
        ltb-true (cost (next r.set)) (cost r.set) (and_right (eqb r.steps limit) (ltb (cost (next r.set)) (cost r.set)) h)

    -- another move would lower the cost
    pub stopped_lower : got.stopped ≡ true → (x : ℕ) × Among x (neighbours got.set) × (cost x < cost got.set)
    stopped_lower h =
        let l = stopped_next h in
        (next got.set, step_among cost neighbours got.set l, l)

    -- where a step is left all were made, so it is stopped
    stopped_when : cost (next got.set) < cost got.set → got.stopped ≡ true
    unfolding Limit.search_within Limit.outcome
    stopped_when lower =
        let r = descend limit start 0 in
        and_both (eq-eqb r.steps limit (descend_all limit start 0 lower ∙ add-zero limit)) (lt-ltb (cost (next r.set)) (cost r.set) lower)

    -- and where another move would lower the cost
    pub stopped_where : (x : ℕ) → Among x (neighbours got.set) → cost x < cost got.set → got.stopped ≡ true
    stopped_where x among lower =
        elim (dec_lt (cost (next got.set)) (cost got.set)) [
          | yes l ↦ stopped_when l
          | no g ↦ absurd (omega (arith, no_step cost neighbours got.set (omega arith) x among))
        ]

    -- ---- settled

    settled_next : got.stopped ≡ false → cost got.set ≤ cost (next got.set)
    settled_next h =
        elim (dec_lt (cost (next got.set)) (cost got.set)) [
          | yes l ↦ clash (stopped_when l) h
          | no g ↦ omega arith
        ]

    pub settled_no_lower : got.stopped ≡ false → NoLower cost (neighbours got.set) got.set
    settled_no_lower h = no_step cost neighbours got.set (settled_next h)

    pub settled_when : NoLower cost (neighbours got.set) got.set → got.stopped ≡ false
    settled_when h = fails (λ e. let w = stopped_lower e in omega (arith, h w.0 w.1, w.2))

    -- ---- going on, stopped or not

    -- without a limit from the set reached: where an unbroken search ends, and the counts add up
    pub goes_on : ((search got.set).set ≡ (search start).set) × (got.steps + (search got.set).steps ≡ (search start).steps)
    unfolding Limit.search_within Limit.outcome
    goes_on = continued cost neighbours limit start

    -- a settled search is the unbroken one
    pub settled_search : got.stopped ≡ false → (got.set ≡ (search start).set) × (got.steps ≡ (search start).steps)
    unfolding Search.search
    settled_search h =
        let stays = descend_stops cost neighbours (cost got.set) got.set 0 (settled_next h) in
        let on = goes_on in (
          sym (ap (λ (r : Reached). r.set) stays) ∙ on.0,
          sym (add-zero got.steps) ∙ ap (λ (r : Reached). got.steps + r.steps) (sym stays) ∙ on.1,
        )

  -- ---- with 0 the set is the start

  pub within_none : (start : ℕ) → ((within 0 start).set ≡ start) × ((within 0 start).steps ≡ 0)
  unfolding Limit.search_within Limit.outcome Search.descend
  within_none start = (refl, refl)

  -- ---- a turn of a loop that has made `steps` of at most `limit`, and its end where all are made

  pub within_turn : (limit set steps : ℕ) → steps < limit → cost (next set) < cost set
      → descend (limit - steps) set steps ≡ descend (limit - (steps + 1)) (next set) (steps + 1)
  within_turn limit set steps room lower =
      let e : limit - steps ≡ suc (limit - (steps + 1)) = omega arith in
      rw (e, descend_moves cost neighbours (limit - (steps + 1)) set steps lower, add-one)

  pub within_full : (limit set steps : ℕ) → limit ≤ steps → descend (limit - steps) set steps ≡ reached set steps
  unfolding Search.descend
  within_full limit set steps full =
      let e : limit - steps ≡ 0 = omega arith in
      rw e
