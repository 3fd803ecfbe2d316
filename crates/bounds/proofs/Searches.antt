-- From the lists that a search looks through to the theorems: a set that no neighbour of the list lowers meets their hypotheses,
-- so what the searches of document 01 end in is bounded beside every rival, from whatever start.
use Prim.Native.Nat.{ℕ, ◌^◌, ◌*◌, ◌≤◌, ◌<◌}
use native.Mathlib.Omega.{arith}
use mathlib.Core.Path.{◌≡◌}
use mathlib.Core.Bool.{Bool, true}
use Rattle.model.specs.Least.{any}
use Rattle.model.specs.Sets.{count, plus, minus, trade, member, with, without}
use Rattle.model.specs.Instance.{Instance, metric, service_cost, total_cost}
use Rattle.model.specs.Neighbours.{swaps, add_drop_swap}
use Rattle.model.specs.Search.{NoLower}
use Rattle.model.specs.Plans.{open_cost, open_start, open_search, limited_cost, limited_start, limited_search}
use Rattle.model.proofs.SetLaws.{member_with, member_without, member_trade}
use Rattle.model.proofs.CostLaws.{service_cong, total_cong}
use Rattle.model.proofs.NeighbourLaws.{add_among, drop_among, swap_among, swap_among_all}
use Rattle.model.proofs.SearchLaws.{search_ends}
use Rattle.model.proofs.PlanLaws.{open_start_lem, limited_start_lem, open_keeps, limited_keeps}
use Rattle.bounds.specs.Optimum.{OpenOptimum, OpenBounded, LimitedOptimum}
use Rattle.bounds.proofs.Lists.{list_optimum_one}
use Rattle.bounds.proofs.Theorems.{open_bound, open_thrice, limited_five}

module _ (I : Instance) where
  open I use {facilities as m}

  -- ---- no lower neighbour in the list

  pub open_optimum : (set : ℕ) → NoLower (open_cost I) (add_drop_swap m set) set → OpenOptimum I (member set)
  unfolding open_cost
  open_optimum set h =
      record {
        add = λ o l e. omega (
          arith,
          h (with set o) (add_among m set o l e),
          total_cong I (member (with set o)) (plus (member set) o) (λ i k. member_with set o i),
        );
        drop = λ f l e two. omega (
          arith,
          h (without set f) (drop_among m set f l e two),
          total_cong I (member (without set f)) (minus (member set) f) (λ i k. member_without set f i),
        );
        swap = λ f o lf ef lo eo. omega (
          arith,
          h (with (without set f) o) (swap_among_all m set f o lf ef lo eo),
          total_cong I (member (with (without set f) o)) (trade (member set) f o) (λ i k. member_trade set f o i),
        );
      }

  pub limited_optimum : (set : ℕ) → NoLower (limited_cost I) (swaps m set) set → LimitedOptimum I 1 (member set)
  unfolding limited_cost
  limited_optimum set h =
      list_optimum_one I (member set) (λ f o lf ef lo eo. omega (
        arith,
        h (with (without set f) o) (swap_among m set f o lf ef lo eo),
        service_cong I (member (with (without set f) o)) (trade (member set) f o) (λ i k. member_trade set f o i),
      ))

  -- ---- the searches

  -- what the open search ends in, from a set of facilities that is not empty, beside any rival
  pub open_search_bound : metric I ≡ true → (start : ℕ) → start < 2 ^ m → any m (member start) ≡ true
      → (G : ℕ → Bool) → any m G ≡ true → OpenBounded I (member (open_search I start).set) G
  unfolding open_search
  open_search_bound h start small some G some_g =
      let end = search_ends (open_cost I) (add_drop_swap m) start in
      open_bound I h (member _) G (open_keeps I start small some).1 some_g (open_optimum _ end.no_lower)

  pub open_search_thrice : metric I ≡ true → (start : ℕ) → start < 2 ^ m → any m (member start) ≡ true
      → (G : ℕ → Bool) → any m G ≡ true → total_cost I (member (open_search I start).set) ≤ 3 * total_cost I G
  unfolding open_search
  open_search_thrice h start small some G some_g =
      let end = search_ends (open_cost I) (add_drop_swap m) start in
      open_thrice I h (member _) G (open_keeps I start small some).1 some_g (open_optimum _ end.no_lower)

  -- what the limited search ends in, from a set of k facilities, beside any rival of at most k
  pub limited_search_bound : metric I ≡ true → (k start : ℕ) → start < 2 ^ m → count m (member start) ≡ k
      → (G : ℕ → Bool) → 1 ≤ count m G → count m G ≤ k
      → service_cost I (member (limited_search I start).set) ≤ 5 * service_cost I G
  unfolding limited_search
  limited_search_bound h k start small size G some few =
      let end = search_ends (limited_cost I) (swaps m) start in
      limited_five I h k (member _) G (limited_keeps I k start small size).1 some few (limited_optimum _ end.no_lower)

  -- ---- and from document 01's starts

  pub open_plan_bound : metric I ≡ true → 1 ≤ m → (G : ℕ → Bool) → any m G ≡ true
      → OpenBounded I (member (open_search I (open_start I)).set) G
  open_plan_bound h some G some_g =
      let start = open_start_lem I some in
      open_search_bound h (open_start I) start.0 start.1 G some_g

  pub open_plan_thrice : metric I ≡ true → 1 ≤ m → (G : ℕ → Bool) → any m G ≡ true
      → total_cost I (member (open_search I (open_start I)).set) ≤ 3 * total_cost I G
  open_plan_thrice h some G some_g =
      let start = open_start_lem I some in
      open_search_thrice h (open_start I) start.0 start.1 G some_g

  pub limited_plan_bound : metric I ≡ true → (k : ℕ) → k ≤ m → (G : ℕ → Bool) → 1 ≤ count m G → count m G ≤ k
      → service_cost I (member (limited_search I (limited_start k)).set) ≤ 5 * service_cost I G
  limited_plan_bound h k low G some few =
      let start = limited_start_lem m k low in
      limited_search_bound h k (limited_start k) start.0 start.1 G some few
