-- Feasible amounts are a floor: their sum is no more than the total cost of any set that is not empty (weak duality, document 000, 3.4). Service
-- costs need not be metric.
-- Idea: an amount is at most its excess at the facility that serves the client and the service cost there. The excesses of a facility's own clients
-- are part of what it is offered, which its opening cost covers.
use Prim.Native.Nat.{ℕ, ◌+◌, ◌-◌, ◌*◌, ◌≤◌, ◌<◌}
use native.Mathlib.Nat.{le_trans, mul-le-mul_left, mul-le-mul_right}
use native.Mathlib.Omega.{arith}
use mathlib.Core.Path.{◌≡◌, refl}
use mathlib.Core.Bool.{Bool, true, false}
use borrow.Author.Tests.{leb-true, leb-false, le-leb, lt-leb}
use lib.Dec.{eqb}
use Rattle.model.specs.Loops.{on, sum}
use Rattle.model.specs.Sets.{count}
use Rattle.model.specs.Least.{any}
use Rattle.model.specs.Instance.{Instance, nearest, assigned, opening_cost, service_cost, total_cost}
use Rattle.model.specs.Floor.{excess_at, within_at, feasible, floor, with_equal_opening}
use Rattle.model.proofs.Bools.{Eq?, same, diff, test}
use Rattle.model.proofs.LoopLaws.{all_at, all_from, all_fails, all_stops}
use Rattle.model.proofs.SumLaws.{sum_mono, sum_cong, sum_add, gather, on_true, on_mono, sum_on_same}
use Rattle.model.proofs.CostLaws.{assigned_least, served_nearest}

module _ (I : Instance) (v : ℕ → ℕ) where
  open I use {facilities as m, clients as n, opening, service, weight}

  -- ---- the readable form of the test, both ways

  pub feasible_at : feasible I v ≡ true → (i : ℕ) → i < m → excess_at I v i ≤ opening i
  unfolding feasible within_at
  feasible_at h i l = leb-true (excess_at I v i) (opening i) (all_at (within_at I v) m i h l)

  pub feasible_when : ((i : ℕ) → i < m → excess_at I v i ≤ opening i) → feasible I v ≡ true
  unfolding feasible within_at
  feasible_when h = all_from (within_at I v) m (λ i l. le-leb (excess_at I v i) (opening i) (h i l))

  -- amounts are not feasible exactly where some facility is offered more
  pub not_feasible : feasible I v ≡ false → (i : ℕ) × (i < m) × (opening i < excess_at I v i)
  unfolding feasible within_at
  not_feasible h = let some = all_fails (within_at I v) m h in (some.0, some.1, leb-false _ _ some.2)

  pub overbid : (i : ℕ) → i < m → opening i < excess_at I v i → feasible I v ≡ false
  unfolding feasible within_at
  overbid i l more = all_stops (within_at I v) m i l (lt-leb _ _ more)

  -- ---- the floor

  module _ (G : ℕ → Bool) (some : any m G ≡ true) where
    -- where client j is served, and its part of what is offered there
    abbrev place : ℕ → ℕ
    place j = assigned I G j

    abbrev part : ℕ → ℕ
    part j = weight j * (v j - service (place j) j)

    own_parts : (i : ℕ) → sum n (λ j. on (eqb (place j) i) (part j)) ≤ excess_at I v i
    unfolding excess_at
    own_parts i = sum_mono n (λ j l. at j (eqb (place j) i) (test (place j) i))
      where
        at : (j : ℕ) (b : Bool) → Eq? (place j) i b → on b (part j) ≤ weight j * (v j - service i j)
        at j true (same e) = rw e (omega arith)
        at j false (diff d) = omega arith

    parts_paid : feasible I v ≡ true → sum n part ≤ opening_cost I G
    unfolding opening_cost
    parts_paid h =
        let gathered = gather m n G place part (λ j l. (assigned_least I G j some).below) in
        let whole = sum_cong n (λ j l. on_true (part j) (assigned_least I G j some).is_in_lem) in
        let paid = sum_mono m (λ i l. on_mono (G i) (le_trans (own_parts i) (feasible_at h i l))) in
        omega (arith, gathered, whole, paid)

    -- "no more than the full cost of any non-empty set"
    pub floor_under : feasible I v ≡ true → floor I v ≤ total_cost I G
    unfolding floor total_cost
    floor_under h =
        let each = sum_mono n (λ j l. at j) in
        let both = sum_add n part (λ j. weight j * service (place j) j) in
        omega (arith, each, both, parts_paid h, served_nearest I G some)
      where
        at : (j : ℕ) → weight j * v j ≤ part j + weight j * service (place j) j
        at j =
            let covers : v j ≤ (v j - service (place j) j) + service (place j) j = omega arith in
            omega (arith, mul-le-mul_left (weight j) covers)

-- ---- a floor under the service cost of at most k facilities

-- where every facility costs as much to open
pub floor_equal : (I : Instance) (v : ℕ → ℕ) (amount k : ℕ) → ((i : ℕ) → i < I.facilities → I.opening i ≡ amount) → feasible I v ≡ true
    → (G : ℕ → Bool) → any I.facilities G ≡ true → count I.facilities G ≤ k → floor I v ≤ k * amount + service_cost I G
unfolding total_cost opening_cost
floor_equal I v amount k equal h G some few =
    omega (arith, floor_under I v G some h, sum_on_same I.facilities amount G I.opening equal, mul-le-mul_right amount few)

-- on any instance, by amounts that are feasible with every opening cost set to one amount, whatever that is
pub floor_limited : (I : Instance) (v : ℕ → ℕ) (amount k : ℕ) → feasible (with_equal_opening amount I) v ≡ true
    → (G : ℕ → Bool) → any I.facilities G ≡ true → count I.facilities G ≤ k → floor I v ≤ k * amount + service_cost I G
unfolding floor service_cost nearest
floor_limited I v amount k h G some few = floor_equal (with_equal_opening amount I) v amount k (λ i l. refl) h G some few
