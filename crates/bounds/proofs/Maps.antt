-- Where a set of facilities serves each client, and the map eta of the facilities to those of F: each goes to the nearest, by way of a client.
-- The key lemma of both theorems: a client that follows eta from its facility in G pays at most twice what that one costs it, and once what
-- its facility in F does.
use Prim.Native.Nat.{ℕ, ◌+◌, ◌*◌, ◌≤◌, ◌<◌}
use native.Mathlib.Omega.{arith}
use mathlib.Core.Path.{◌≡◌}
use mathlib.Core.Bool.{Bool, true}
use Rattle.model.specs.Least.{any, arg}
use Rattle.model.specs.Instance.{Instance, metric, assigned}
use Rattle.model.specs.QuickMetric.{route}
use Rattle.model.proofs.LeastLaws.{Least, arg_least}
use Rattle.model.proofs.CostLaws.{Assigned, metric_rule, assigned_least}
use Rattle.model.proofs.QuickMetricLaws.{route_at, route_by}
use Rattle.bounds.specs.Optimum.{Metric}

pub metric_of : (I : Instance) → metric I ≡ true → Metric I
metric_of I h = record { rule = λ a b p q la lb lp lq. omega (arith, metric_rule I h a b p q la lb lp lq) }

-- where each client is served in S, and what that costs; no facility of S is nearer
pub record Served (I : Instance) (S : ℕ → Bool) : Type 0 where
  pub place : ℕ → ℕ
  pub cost : ℕ → ℕ
  pub least : (j : ℕ) → Assigned I S j (place j)

abbrev pub serve : (I : Instance) (S : ℕ → Bool) → any I.facilities S ≡ true → Served I S
serve I S some =
    record {
      place = assigned I S;
      cost = λ j. I.weight j * I.service (assigned I S j) j;
      least = λ j. assigned_least I S j some;
    }

module _ (I : Instance) where
  open I use {facilities as m, clients as n, service}

  -- the way from facility o to facility f by the client for which it is shortest
  pub dist : ℕ → ℕ → ℕ
  dist o f = route n (service o) (service f)

  pub dist_le : (o f p : ℕ) → p < n → dist o f ≤ service o p + service f p
  unfolding dist
  dist_le o f p l = route_at n (service o) (service f) p l

  -- where there is a client j, some client is on that way
  dist_by : (o f j : ℕ) → j < n → (p : ℕ) × (p < n) × (dist o f ≡ service o p + service f p)
  unfolding dist
  dist_by o f j l = route_by n (service o) (service f) j l

  -- from client j to either of two facilities by way of the other
  pub via_first : Metric I → (o f j : ℕ) → o < m → f < m → j < n → service o j ≤ dist o f + service f j
  via_first M o f j lo lf lj = let p = dist_by o f j lj in omega (arith, p.2, M.rule o f p.0 j lo lf p.1 lj)

  pub via_second : Metric I → (o f j : ℕ) → o < m → f < m → j < n → service f j ≤ dist o f + service o j
  via_second M o f j lo lf lj = let p = dist_by o f j lj in omega (arith, p.2, M.rule f o p.0 j lf lo p.1 lj)

  -- the facility of F nearest to o
  pub eta : (ℕ → Bool) → ℕ → ℕ
  eta F o = arg m F (dist o)

  pub eta_least : (F : ℕ → Bool) → any m F ≡ true → (o : ℕ) → Least m F (dist o) (eta F o)
  unfolding eta
  eta_least F some o = arg_least m F (dist o) some

  -- The key lemma.
  pub eta_near : Metric I → (F G : ℕ → Bool) → any m F ≡ true → any m G ≡ true → (j : ℕ) → j < n
      → service (eta F (assigned I G j)) j ≤ 2 * service (assigned I G j) j + service (assigned I F j) j
  eta_near M F G some_f some_g j l =
      let s = assigned_least I F j some_f in
      let t = assigned_least I G j some_g in
      let e = eta_least F some_f (assigned I G j) in
      omega (
        arith,
        via_second M (assigned I G j) (eta F (assigned I G j)) j t.below e.below l,
        e.lowest (assigned I F j) s.below s.is_in_lem,
        dist_le (assigned I G j) (assigned I F j) j l,
      )
