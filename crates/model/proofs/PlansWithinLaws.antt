-- Laws of the searches on an instance from any start, with a limit on moves: they keep to sets of facilities, a limited one to their count.
use Prim.Native.Nat.{ℕ, ◌^◌, ◌<◌}
use mathlib.Core.Path.{◌≡◌}
use mathlib.Core.Bool.{true}
use Rattle.model.specs.Least.{any}
use Rattle.model.specs.Sets.{count, member}
use Rattle.model.specs.Instance.{Instance}
use Rattle.model.specs.Neighbours.{swaps, add_drop_swap}
use Rattle.model.specs.Plans.{open_cost, limited_cost}
use Rattle.model.specs.PlansWithin.{open_search_within, limited_search_within}
use Rattle.model.proofs.NeighbourLaws.{moves_keep, swaps_keep}
use Rattle.model.proofs.LimitLaws.{within_keeps}

module _ (I : Instance) where
  open I use {facilities as m}

  pub open_within_keeps : (limit start : ℕ) → start < 2 ^ m → any m (member start) ≡ true
      → ((open_search_within I limit start).set < 2 ^ m) × (any m (member (open_search_within I limit start).set) ≡ true)
  unfolding open_search_within
  open_within_keeps limit start small some =
      within_keeps (open_cost I) (add_drop_swap m) limit start (λ set. (set < 2 ^ m) × (any m (member set) ≡ true))
      (λ set x p among. moves_keep m set p.0 x among) (small, some)

  pub limited_within_keeps : (k limit start : ℕ) → start < 2 ^ m → count m (member start) ≡ k
      → ((limited_search_within I limit start).set < 2 ^ m) × (count m (member (limited_search_within I limit start).set) ≡ k)
  unfolding limited_search_within
  limited_within_keeps k limit start small size =
      within_keeps (limited_cost I) (swaps m) limit start (λ set. (set < 2 ^ m) × (count m (member set) ≡ k))
      (λ set x p among. let s = swaps_keep m set p.0 x among in (s.0, rw s.1 p.1)) (small, size)
