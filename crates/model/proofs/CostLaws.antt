-- Laws of the costs, for callers who need not open them: the nearest facility, sets that agree, metric service costs.
use Prim.Native.Nat.{ℕ, ◌+◌, ◌*◌, ◌≤◌, ◌<◌, zero-le}
use native.Mathlib.Nat.{one-mul, mul-le-mul_left}
use native.Mathlib.Omega.{arith}
use mathlib.Core.Path.{◌≡◌, sym, ap, ap₂, ◌∙◌}
use mathlib.Core.Bool.{Bool, true, false, not, ◌&&◌, and-false}
use borrow.Author.Tests.{eq-eqb, eqb-true, leb-true, leb-false, le-leb, lt-leb}
use lib.Dec.{eqb}
use Rattle.model.specs.Loops.{on, sum}
use Rattle.model.specs.Least.{any, least, arg}
use Rattle.model.specs.Sets.{plus, minus, trade}
use Rattle.model.specs.Instance.{Instance, four_point, four_point_q, four_point_pq, four_point_bpq, metric, Breaks, nearest, at_nearest, assigned, opening_cost, service_cost, total_cost}
use Rattle.model.proofs.Bools.{and_left, and_right, and_both, same_test}
use Rattle.model.proofs.LoopLaws.{all_at, all_from, all_fails, all_stops}
use Rattle.model.proofs.SumLaws.{sum_mono, sum_cong}
use Rattle.model.proofs.CountLaws.{sum_plus, sum_minus}
use Rattle.model.proofs.LeastLaws.{Least, any_of, none_of, arg_least, arg_cong, arg_le, arg_values, least_at, least_le, least_cong, least_values, least_scaled}
use Rattle.model.proofs.LeastThenLaws.{LeastThen, then_is}
use Rattle.model.proofs.GapLaws.{least_gap, arg_gap}

module _ (I : Instance) where
  open I use {facilities as m, clients as n, opening, service, weight}

  -- ---- metric service costs

  pub metric_rule : metric I ≡ true → (a b p q : ℕ) → a < m → b < m → p < n → q < n
      → service a q ≤ service a p + service b p + service b q
  unfolding metric four_point_bpq four_point_pq four_point_q four_point
  metric_rule h a b p q la lb lp lq =
      let at_a = all_at (four_point_bpq I) m a h la in
      let at_b = all_at (four_point_pq I a) m b at_a lb in
      let at_p = all_at (four_point_q I a b) n p at_b lp in
      leb-true (service a q) (service a p + service b p + service b q) (all_at (four_point I a b p) n q at_p lq)

  pub rule_metric : ((a b p q : ℕ) → a < m → b < m → p < n → q < n → service a q ≤ service a p + service b p + service b q)
      → metric I ≡ true
  unfolding metric four_point_bpq four_point_pq four_point_q four_point
  rule_metric h =
      all_from (four_point_bpq I) m (λ a la. all_from (four_point_pq I a) m (λ b lb. all_from (four_point_q I a b) n (λ p lp.
      all_from (four_point I a b p) n (λ q lq. le-leb (service a q) (service a p + service b p + service b q) (h a b p q la lb lp lq)))))

  -- service costs are not metric exactly where some two facilities and two clients break the rule
  pub not_metric : metric I ≡ false → Breaks I
  unfolding metric four_point_bpq four_point_pq four_point_q four_point
  not_metric h =
      let at_a = all_fails (four_point_bpq I) m h in
      let at_b = all_fails (four_point_pq I at_a.0) m at_a.2 in
      let at_p = all_fails (four_point_q I at_a.0 at_b.0) n at_b.2 in
      let at_q = all_fails (four_point I at_a.0 at_b.0 at_p.0) n at_p.2 in
      record {
        a = at_a.0;
        b = at_b.0;
        p = at_p.0;
        q = at_q.0;
        a_below = at_a.1;
        b_below = at_b.1;
        p_below = at_p.1;
        q_below = at_q.1;
        shorter = leb-false _ _ at_q.2;
      }

  pub broken : Breaks I → metric I ≡ false
  unfolding metric four_point_bpq four_point_pq four_point_q four_point
  broken w =
      all_stops (four_point_bpq I) m w.a w.a_below (all_stops (four_point_pq I w.a) m w.b w.b_below
      (all_stops (four_point_q I w.a w.b) n w.p w.p_below (all_stops (four_point I w.a w.b w.p) n w.q w.q_below
      (lt-leb _ _ w.shorter))))

  -- ---- the nearest facility

  -- no facility of S is nearer
  pub nearest_le : (S : ℕ → Bool) (i j : ℕ) → i < m → S i ≡ true → nearest I S j ≤ service i j
  unfolding nearest
  nearest_le S i j l e = least_le m i S (λ i. service i j) l e

  -- ---- the assigned facility

  at_nearest_lem : (S : ℕ → Bool) (j i : ℕ) → S i ≡ true → service i j ≡ nearest I S j → at_nearest I S j i ≡ true
  unfolding at_nearest
  at_nearest_lem S j i e q = and_both e (eq-eqb (service i j) (nearest I S j) q)

  at_nearest_of : (S : ℕ → Bool) (j i : ℕ) → at_nearest I S j i ≡ true → (S i ≡ true) × (service i j ≡ nearest I S j)
  unfolding at_nearest
  at_nearest_of S j i h =
      let same = eqb (service i j) (nearest I S j) in
      (and_left (S i) same h, eqb-true (service i j) (nearest I S j) (and_right (S i) same h))

  some_nearest : (S : ℕ → Bool) (j : ℕ) → any m S ≡ true → any m (at_nearest I S j) ≡ true
  unfolding nearest
  some_nearest S j e =
      let a = arg m S (λ i. service i j) in
      let r = arg_least m S (λ i. service i j) e in
      any_of m a (at_nearest I S j) r.below (at_nearest_lem S j a r.is_in_lem (sym (least_at m S (λ i. service i j) e)))

  cheapest : (S : ℕ → Bool) (j : ℕ) → any m S ≡ true → Least m (at_nearest I S j) opening (assigned I S j)
  unfolding assigned
  cheapest S j e = arg_least m (at_nearest I S j) opening (some_nearest S j e)

  -- its cost is the nearest
  pub assigned_nearest : (S : ℕ → Bool) (j : ℕ) → any m S ≡ true → service (assigned I S j) j ≡ nearest I S j
  assigned_nearest S j e = (at_nearest_of S j (assigned I S j) (cheapest S j e).is_in_lem).1

  -- A facility of S: none of S is nearer, of those as near none costs less to open, and of those that cost as much to open none has a
  -- lower number.
  abbrev pub Assigned : (ℕ → Bool) → ℕ → ℕ → Type 0
  Assigned S j a = LeastThen m S (λ i. service i j) opening a

  -- the assigned facility is so
  pub assigned_least : (S : ℕ → Bool) (j : ℕ) → any m S ≡ true → Assigned S j (assigned I S j)
  assigned_least S j e =
      let r = cheapest S j e in
      let near = assigned_nearest S j e in
      record {
        below = r.below;
        is_in_lem = (at_nearest_of S j (assigned I S j) r.is_in_lem).0;
        lowest = λ k l f. omega (arith, nearest_le S k j l f);
        cheapest = λ k l f q. r.lowest k l (at_nearest_lem S j k f (q ∙ near));
        first = λ k l f q. r.first k l (at_nearest_lem S j k f (q ∙ near));
      }

  -- and no other
  pub assigned_is : (S : ℕ → Bool) (j a : ℕ) → Assigned S j a → assigned I S j ≡ a
  assigned_is S j a r =
      then_is S (λ i. service i j) opening m (assigned I S j) a (assigned_least S j (any_of m a S r.below r.is_in_lem)) r

  pub assigned_le : (S : ℕ → Bool) (j : ℕ) → assigned I S j ≤ m
  unfolding assigned
  assigned_le S j = arg_le m (at_nearest I S j) opening

  -- where S has no facility
  pub assigned_none : (S : ℕ → Bool) (j : ℕ) → any m S ≡ false → (assigned I S j ≡ 0) × (nearest I S j ≡ 0)
  unfolding assigned at_nearest nearest arg least
  assigned_none S j none = (
    arg_gap (at_nearest I S j) 0 m zero-le (λ i a l. ap (λ (b : Bool). b && eqb (service i j) (nearest I S j)) (none_of m i S none l)) opening,
    least_gap S 0 m zero-le (λ i a l. none_of m i S none l) (λ i. service i j),
  )

  -- ---- any assignment of clients to facilities of S costs at least as much as the nearest

  pub served_by : (S : ℕ → Bool) (r : ℕ → ℕ) → ((j : ℕ) → j < n → r j < m) → ((j : ℕ) → j < n → S (r j) ≡ true)
      → service_cost I S ≤ sum n (λ j. weight j * service (r j) j)
  unfolding service_cost
  served_by S r below in_s = sum_mono n (λ j l. mul-le-mul_left (weight j) (nearest_le S (r j) j (below j l) (in_s j l)))

  pub served_nearest : (S : ℕ → Bool) → any m S ≡ true → service_cost I S ≡ sum n (λ j. weight j * service (assigned I S j) j)
  unfolding service_cost
  served_nearest S e = sum_cong n (λ j l. ap (λ x. weight j * x) (sym (assigned_nearest S j e)))

  -- where every client counts once, the plain sum
  pub service_once : ((j : ℕ) → weight j ≡ 1) → (S : ℕ → Bool) → sum n (nearest I S) ≡ service_cost I S
  unfolding service_cost
  service_once once S = sum_cong n (λ j l. sym (ap (λ w. w * nearest I S j) (once j) ∙ one-mul (nearest I S j)))

  -- ---- opening costs with a facility more, with one less, with one for another

  pub opening_plus : (S : ℕ → Bool) (i : ℕ) → i < m → S i ≡ false → opening_cost I (plus S i) ≡ opening_cost I S + opening i
  unfolding opening_cost
  opening_plus S i l e = sum_plus m i S opening l e

  pub opening_minus : (S : ℕ → Bool) (o : ℕ) → o < m → S o ≡ true → opening_cost I (minus S o) + opening o ≡ opening_cost I S
  unfolding opening_cost
  opening_minus S o l e = sum_minus m o S opening l e

  pub opening_trade : (S : ℕ → Bool) (o i : ℕ) → o < m → S o ≡ true → i < m → S i ≡ false
      → opening_cost I (trade S o i) + opening o ≡ opening_cost I S + opening i
  opening_trade S o i lo eo li ei =
      omega (arith, opening_plus (minus S o) i li (rw ei (and-false (not (eqb o i)))), opening_minus S o lo eo)

  -- ---- sets that agree on the facilities cost the same

  module _ (S T : ℕ → Bool) (agree : (i : ℕ) → i < m → S i ≡ T i) where
    pub nearest_cong : (j : ℕ) → nearest I S j ≡ nearest I T j
    unfolding nearest
    nearest_cong j = least_cong m S T (λ i. service i j) agree

    pub assigned_cong : (j : ℕ) → assigned I S j ≡ assigned I T j
    unfolding assigned at_nearest
    assigned_cong j =
        arg_cong m (at_nearest I S j) (at_nearest I T j) opening (λ i l. ap₂ (λ (b : Bool) (x : ℕ). b && eqb (service i j) x) (agree i l) (nearest_cong j))

    pub opening_cong : opening_cost I S ≡ opening_cost I T
    unfolding opening_cost
    opening_cong = sum_cong m (λ i l. ap (λ b. on b (opening i)) (agree i l))

    pub service_cong : service_cost I S ≡ service_cost I T
    unfolding service_cost
    service_cong = sum_cong n (λ j l. ap (λ x. weight j * x) (nearest_cong j))

    pub total_cong : total_cost I S ≡ total_cost I T
    unfolding total_cost
    total_cong = ap₂ ◌+◌ opening_cong service_cong

-- ---- instances that agree on service costs keep the four-point rule alike

also_metric : (I J : Instance) → J.facilities ≤ I.facilities → J.clients ≤ I.clients
    → ((a p : ℕ) → a < J.facilities → p < J.clients → I.service a p ≡ J.service a p) → metric I ≡ true → metric J ≡ true
also_metric I J within_m within_n agree h =
    rule_metric J (λ a b p q la lb lp lq. omega (
      arith,
      agree a q la lq,
      agree a p la lp,
      agree b p lb lp,
      agree b q lb lq,
      metric_rule I h a b p q (omega arith) (omega arith) (omega arith) (omega arith),
    ))

pub same_metric : (I J : Instance) → I.facilities ≡ J.facilities → I.clients ≡ J.clients
    → ((a p : ℕ) → a < I.facilities → p < I.clients → I.service a p ≡ J.service a p) → metric I ≡ metric J
same_metric I J same_m same_n agree =
    same_test
    (also_metric I J (omega arith) (omega arith) (λ a p la lp. agree a p (omega arith) (omega arith)))
    (also_metric J I (omega arith) (omega arith) (λ a p la lp. sym (agree a p la lp)))

-- ---- clients with the same service costs, where opening costs are the same, have the same nearest and the same assigned facility

module _ (I J : Instance) (S : ℕ → Bool) (j k : ℕ) (same_m : I.facilities ≡ J.facilities)
    (costs : (i : ℕ) → i < I.facilities → I.service i j ≡ J.service i k) where
  pub same_nearest : nearest I S j ≡ nearest J S k
  unfolding nearest
  same_nearest =
      least_values S (λ i. I.service i j) (λ i. J.service i k) I.facilities costs ∙ ap (λ m. least m S (λ i. J.service i k)) same_m

  pub same_assigned : ((i : ℕ) → i < I.facilities → I.opening i ≡ J.opening i) → assigned I S j ≡ assigned J S k
  unfolding assigned at_nearest
  same_assigned fees =
      arg_cong I.facilities (at_nearest I S j) (at_nearest J S k) I.opening
      (λ i l. ap₂ (λ (x y : ℕ). S i && eqb x y) (costs i l) same_nearest)
      ∙ arg_values (at_nearest J S k) I.opening J.opening I.facilities fees
      ∙ ap (λ m. arg m (at_nearest J S k) J.opening) same_m

-- ---- instances that agree on opening costs, and on service costs times weight, have the same costs

weighted : (I : Instance) (S : ℕ → Bool) → service_cost I S ≡ sum I.clients (λ j. least I.facilities S (λ i. I.weight j * I.service i j))
unfolding service_cost nearest
weighted I S = sum_cong I.clients (λ j l. sym (least_scaled I.facilities (I.weight j) S (λ i. I.service i j)))

module _ (I J : Instance) (S : ℕ → Bool) (same_m : I.facilities ≡ J.facilities) (same_n : I.clients ≡ J.clients) where
  pub same_service : ((i j : ℕ) → i < I.facilities → j < I.clients → I.weight j * I.service i j ≡ J.weight j * J.service i j)
      → service_cost I S ≡ service_cost J S
  same_service agree =
      weighted I S
      ∙ sum_cong I.clients (λ j l. least_values S (λ i. I.weight j * I.service i j) (λ i. J.weight j * J.service i j) I.facilities (λ i k. agree i j k l))
      ∙ ap₂ (λ n m. sum n (λ j. least m S (λ i. J.weight j * J.service i j))) same_n same_m ∙ sym (weighted J S)

  pub same_opening : ((i : ℕ) → i < I.facilities → I.opening i ≡ J.opening i) → opening_cost I S ≡ opening_cost J S
  unfolding opening_cost
  same_opening agree =
      sum_cong I.facilities (λ i l. ap (on (S i)) (agree i l)) ∙ ap (λ m. sum m (λ i. on (S i) (J.opening i))) same_m
