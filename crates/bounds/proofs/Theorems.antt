-- THE THEOREMS: how much dearer than the best a set of facilities can be that no move makes cheaper, with metric service costs.
use Prim.Native.Nat.{ℕ, ◌+◌, ◌*◌, ◌≤◌}
use native.Mathlib.Nat.{le_refl}
use native.Mathlib.Omega.{arith}
use mathlib.Core.Path.{◌≡◌}
use mathlib.Core.Bool.{Bool, true}
use Rattle.model.specs.Least.{any}
use Rattle.model.specs.Sets.{count}
use Rattle.model.specs.Instance.{Instance, metric, service_cost, total_cost}
use Rattle.model.proofs.LeastLaws.{any_counted}
use Rattle.bounds.specs.Optimum.{OpenOptimum, OpenBounded, LimitedOptimum}
use Rattle.bounds.proofs.Maps.{metric_of}
use Rattle.bounds.proofs.OpenBound.{bounded}
use Rattle.bounds.proofs.Exchange.{exchange_bound}

-- Any number of facilities, by adds, drops and swaps (document 000, 6.3).
pub open_bound : (I : Instance) → metric I ≡ true → (F G : ℕ → Bool) → any I.facilities F ≡ true → any I.facilities G ≡ true
    → OpenOptimum I F → OpenBounded I F G
open_bound I h F G f g opt = bounded I (metric_of I h) F G f g opt

pub open_thrice : (I : Instance) → metric I ≡ true → (F G : ℕ → Bool) → any I.facilities F ≡ true → any I.facilities G ≡ true
    → OpenOptimum I F → total_cost I F ≤ 3 * total_cost I G
unfolding total_cost
open_thrice I h F G f g opt = let b = open_bound I h F G f g opt in omega arith

-- At most k facilities, by exchanges of at most q (document 000, 6.1 and 6.2).
pub limited_bound : (I : Instance) → metric I ≡ true → (q k : ℕ) → 1 ≤ q → (F G : ℕ → Bool)
    → count I.facilities F ≡ k → 1 ≤ count I.facilities G → count I.facilities G ≤ k
    → LimitedOptimum I q F → q * service_cost I F ≤ (3 * q + 2) * service_cost I G
limited_bound I h q k q_pos F G size some few opt =
    let m = I.facilities in
    exchange_bound I (metric_of I h) q F G q_pos (any_counted m F (omega arith)) (any_counted m G some) (omega arith) opt

pub limited_five : (I : Instance) → metric I ≡ true → (k : ℕ) → (F G : ℕ → Bool)
    → count I.facilities F ≡ k → 1 ≤ count I.facilities G → count I.facilities G ≤ k
    → LimitedOptimum I 1 F → service_cost I F ≤ 5 * service_cost I G
limited_five I h k F G size some few opt = let b = limited_bound I h 1 k (le_refl 1) F G size some few opt in omega arith
