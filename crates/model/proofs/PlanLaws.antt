-- Laws of document 01's searches: their starts are sets of facilities, and so is what they end in; how the open start is found; and
-- that it depends on costs alone.
use Prim.Native.Nat.{ℕ, ◌+◌, ◌^◌, ◌≤◌, ◌<◌}
use native.Mathlib.Numerals.{add-one}
use native.Mathlib.Omega.{arith}
use mathlib.Core.Path.{◌≡◌, refl, ap₂, fun_ext, ◌∙◌}
use mathlib.Core.Bool.{Bool, true, false, cond}
use lib.Dec.{ltb}
use lib.Pow.{pow-lt, pow_mono, pow_pos}
use Rattle.model.specs.Least.{any, arg}
use Rattle.model.specs.Sets.{count, member}
use Rattle.model.specs.Instance.{Instance}
use Rattle.model.specs.Neighbours.{swaps, add_drop_swap}
use Rattle.model.specs.Search.{better}
use Rattle.model.specs.Plans.{open_cost, open_start, open_search, limited_cost, limited_start, limited_search}
use Rattle.model.proofs.Bools.{eqb_self}
use Rattle.model.proofs.LeastLaws.{any_of, arg_least}
use Rattle.model.proofs.SetLaws.{member_single, count_ones}
use Rattle.model.proofs.NeighbourLaws.{moves_keep, swaps_keep}
use Rattle.model.proofs.SearchLaws.{search_keeps}

pub open_start_lem : (I : Instance) → 1 ≤ I.facilities
    → (open_start I < 2 ^ I.facilities) × (any I.facilities (member (open_start I)) ≡ true)
unfolding open_start
open_start_lem I some =
    let m = I.facilities in
    let a = arg m (λ i. true) (λ i. open_cost I (2 ^ i)) in
    let below = (arg_least m (λ i. true) (λ i. open_cost I (2 ^ i)) (any_of m 0 (λ i. true) some refl)).below in
    (pow-lt below, any_of m a (member (2 ^ a)) below (member_single a a ∙ eqb_self a))

pub limited_start_lem : (m k : ℕ) → k ≤ m → (limited_start k < 2 ^ m) × (count m (member (limited_start k)) ≡ k)
unfolding limited_start
limited_start_lem m k few = (omega (arith, pow_mono few, pow_pos k), count_ones m k few)

-- ---- the searches keep to sets of facilities

module _ (I : Instance) where
  open I use {facilities as m}

  -- the open search keeps to sets of facilities that are not empty
  pub open_keeps : (start : ℕ) → start < 2 ^ m → any m (member start) ≡ true
      → ((open_search I start).set < 2 ^ m) × (any m (member (open_search I start).set) ≡ true)
  unfolding open_search
  open_keeps start small some =
      search_keeps (open_cost I) (add_drop_swap m) (λ set. (set < 2 ^ m) × (any m (member set) ≡ true))
      (λ set x p among. moves_keep m set p.0 x among) start (small, some)

  -- the limited search keeps the count
  pub limited_keeps : (k start : ℕ) → start < 2 ^ m → count m (member start) ≡ k
      → ((limited_search I start).set < 2 ^ m) × (count m (member (limited_search I start).set) ≡ k)
  unfolding limited_search
  limited_keeps k start small size =
      search_keeps (limited_cost I) (swaps m) (λ set. (set < 2 ^ m) × (count m (member set) ≡ k))
      (λ set x p among. let s = swaps_keep m set p.0 x among in (s.0, rw s.1 p.1)) start (small, size)

  -- and from document 01's starts
  pub open_plan_keeps : 1 ≤ m
      → ((open_search I (open_start I)).set < 2 ^ m) × (any m (member (open_search I (open_start I)).set) ≡ true)
  open_plan_keeps some = let start = open_start_lem I some in open_keeps (open_start I) start.0 start.1

  pub limited_plan_keeps : (k : ℕ) → k ≤ m
      → ((limited_search I (limited_start k)).set < 2 ^ m) × (count m (member (limited_search I (limited_start k)).set) ≡ k)
  limited_plan_keeps k few = let start = limited_start_lem m k few in limited_keeps k (limited_start k) start.0 start.1

-- ---- the open start, found one facility after the other

pub start_one : (cost : ℕ → ℕ) → 1 ≡ 2 ^ arg 1 (λ i. true) (λ i. cost (2 ^ i))
unfolding arg any
start_one cost = refl

pub start_more : (cost : ℕ → ℕ) (i : ℕ) → 1 ≤ i
    → better cost (2 ^ i) (2 ^ arg i (λ k. true) (λ k. cost (2 ^ k))) ≡ 2 ^ arg (i + 1) (λ k. true) (λ k. cost (2 ^ k))
unfolding better arg
start_more cost i some =
    let a = arg i (λ k. true) (λ k. cost (2 ^ k)) in
    rw (add-one i, arg, any_of i 0 (λ k. true) some refl) (raised (ltb (cost (2 ^ i)) (cost (2 ^ a))) i a)
  where
    raised : (b : Bool) (x y : ℕ) → cond b (2 ^ x) (2 ^ y) ≡ 2 ^ cond b x y
    raised true x y = refl
    raised false x y = refl

-- ---- instances of as many facilities, with the same costs, have the same open start

pub same_start : (I J : Instance) → I.facilities ≡ J.facilities → ((set : ℕ) → open_cost I set ≡ open_cost J set) → open_start I ≡ open_start J
unfolding open_start
same_start I J same_m same_cost = ap₂ (λ m cost. 2 ^ arg m (λ i. true) (λ i. cost (2 ^ i))) same_m (fun_ext same_cost)
