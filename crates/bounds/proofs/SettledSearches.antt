-- Searches with a limit on moves, from whatever start: where the outcome is settled no move lowers the cost, and the bounds hold beside every
-- rival (document 02, paper 7).
use Prim.Native.Nat.{ℕ, ◌^◌, ◌*◌, ◌≤◌, ◌<◌}
use mathlib.Core.Path.{◌≡◌, refl}
use mathlib.Core.Bool.{Bool, true, false}
use Rattle.model.specs.Least.{any}
use Rattle.model.specs.Sets.{count, member}
use Rattle.model.specs.Instance.{Instance, metric, service_cost, total_cost}
use Rattle.model.specs.Neighbours.{swaps, add_drop_swap}
use Rattle.model.specs.Search.{NoLower}
use Rattle.model.specs.Plans.{open_cost, limited_cost}
use Rattle.model.specs.PlansWithin.{open_search_within, limited_search_within}
use Rattle.model.proofs.LimitLaws.{settled_no_lower}
use Rattle.model.proofs.PlansWithinLaws.{open_within_keeps, limited_within_keeps}
use Rattle.bounds.specs.Optimum.{OpenBounded}
use Rattle.bounds.proofs.Theorems.{open_bound, open_thrice, limited_five}
use Rattle.bounds.proofs.Searches.{open_optimum, limited_optimum}

module _ (I : Instance) where
  open I use {facilities as m}

  -- ---- open searches

  pub open_settled : (limit start : ℕ) → (open_search_within I limit start).stopped ≡ false
      → NoLower (open_cost I) (add_drop_swap m (open_search_within I limit start).set) (open_search_within I limit start).set
  unfolding open_search_within
  open_settled limit start h = settled_no_lower (open_cost I) (add_drop_swap m) limit start h

  module _ (limit start : ℕ) (small : start < 2 ^ m) (some : any m (member start) ≡ true) (settled : (open_search_within I limit start).stopped ≡ false)
      (G : ℕ → Bool) (some_g : any m G ≡ true)
    where
      pub open_settled_bound : metric I ≡ true → OpenBounded I (member (open_search_within I limit start).set) G
      open_settled_bound h =
          open_bound I h (member _) G (open_within_keeps I limit start small some).1 some_g (open_optimum I _ (open_settled limit start settled))

      pub open_settled_thrice : metric I ≡ true → total_cost I (member (open_search_within I limit start).set) ≤ 3 * total_cost I G
      open_settled_thrice h =
          open_thrice I h (member _) G (open_within_keeps I limit start small some).1 some_g (open_optimum I _ (open_settled limit start settled))

  -- ---- limited searches, one for one: k is the start's count

  pub limited_settled : (limit start : ℕ) → (limited_search_within I limit start).stopped ≡ false
      → NoLower (limited_cost I) (swaps m (limited_search_within I limit start).set) (limited_search_within I limit start).set
  unfolding limited_search_within
  limited_settled limit start h = settled_no_lower (limited_cost I) (swaps m) limit start h

  pub limited_settled_five : metric I ≡ true → (limit start : ℕ) → start < 2 ^ m → (limited_search_within I limit start).stopped ≡ false
      → (G : ℕ → Bool) → 1 ≤ count m G → count m G ≤ count m (member start)
      → service_cost I (member (limited_search_within I limit start).set) ≤ 5 * service_cost I G
  limited_settled_five h limit start small settled G some few =
      limited_five I h (count m (member start)) (member _) G
      (limited_within_keeps I (count m (member start)) limit start small refl).1 some few (limited_optimum I _ (limited_settled limit start settled))
