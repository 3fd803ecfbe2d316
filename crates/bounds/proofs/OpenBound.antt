-- Any number of facilities: of a set F that no move makes cheaper, the service cost is at most the total cost of any rival set G,
-- and the opening cost at most the opening cost of G and twice its service cost.
-- Document 000, 6.3. V. Arya, N. Garg, R. Khandekar, A. Meyerson, K. Munagala, V. Pandit, Local search heuristics for k-median and facility
-- location problems, 2004, in the form of A. Gupta, K. Tangwongsan, Simpler analyses of local search algorithms for facility location, 2008.
--
-- How the proof goes. s j and t j are the facilities of client j in F and in G, A j and O j what it costs to serve it there.
-- Service: for each o of G, add o and send there the clients that G has there. Summed over o (`adds`, by `gather`) that is `all_added`.
-- Opening: eta o is the facility of F nearest to o; rho f is the nearest to f of the facilities of G that have eta o = f.
--   Each f of F is closed once (`close_part`): in trade for rho f, or dropped where no o of G has eta o = f. Its clients go where `moved` says:
--   to eta (t j), or to rho f where eta (t j) is f itself, which is closed. Each o of G that is no rho f is added once, for its clients that
--   were at eta o. What one client pays for the two is `point`, and every facility of G is paid for once, `paid_once`.
-- No case is made of a facility that is in both sets: `add_by` and `swap_by` hold for every o.
use Prim.Native.Nat.{ℕ, ◌+◌, ◌*◌, ◌≤◌, ◌<◌}
use native.Mathlib.Nat.{mul-le-mul_left}
use native.Mathlib.Omega.{arith}
use mathlib.Core.Path.{◌≡◌, sym, ap, ◌∙◌}
use mathlib.Core.Bool.{Bool, true, false, cond, not, ◌&&◌, true≢false}
use borrow.Author.Tests.{eqb-true}
use lib.Dec.{eqb}
use Rattle.model.specs.Loops.{on, sum}
use Rattle.model.specs.Least.{any, arg}
use Rattle.model.specs.Sets.{plus, minus, trade}
use Rattle.model.specs.Instance.{Instance, opening_cost}
use Rattle.model.proofs.Bools.{cases, clash, and_left, and_right, eqb_self, Eq?, same, diff, test}
use Rattle.model.proofs.SumLaws.{sum_mono, sum_cong, sum_add, sum_mul, sum_term, on_true, on_le, on_and, on_split, sum_over, gather}
use Rattle.model.proofs.TestSetLaws.{plus_old, plus_new, minus_in}
use Rattle.model.proofs.LeastLaws.{Least, any_of, none_of, arg_least}
use Rattle.model.proofs.CostLaws.{served_nearest}
use Rattle.bounds.specs.Optimum.{Metric, OpenOptimum, OpenBounded}
use Rattle.bounds.proofs.Maps.{serve, dist, dist_le, via_first, eta, eta_least, eta_near}
use Rattle.bounds.proofs.Routing.{Routes, routed, reroute, add_by, drop_by, swap_by}

module _ (I : Instance) (F G : ℕ → Bool) where
  -- the facilities of G that have f for their nearest in F, and the nearest to f of those
  pre : ℕ → ℕ → Bool
  pre f o = G o && eqb (eta I F o) f

  rho : ℕ → ℕ
  rho f = arg I.facilities (pre f) (λ o. dist I o f)

module _ (I : Instance) (M : Metric I) (F G : ℕ → Bool)
    (some_f : any I.facilities F ≡ true) (some_g : any I.facilities G ≡ true) (opt : OpenOptimum I F)
  where
    open I use {facilities as m, clients as n, opening, service, weight}
    open serve I F some_f use {place as s, cost as A, least as s_least}
    open serve I G some_g use {place as t, cost as O, least as t_least}

    -- ---- adding a facility o, for the clients that G has there and that pass c

    add_part : (c : ℕ → Bool) (o : ℕ) → o < m
        → sum n (λ j. on (eqb (t j) o) (on (c j) (A j))) ≤ opening o + sum n (λ j. on (eqb (t j) o) (on (c j) (O j)))
    add_part c o l =
        omega (
          arith,
          add_by I F opt o l (λ j. cond (b j) (t j) (s j)) into,
          served_nearest I F some_f,
          reroute I b t s,
          sum_cong n (λ j h. on_and (eqb (t j) o) (c j) (A j)),
          sum_cong n (λ j h. on_and (eqb (t j) o) (c j) (O j)),
        )
      where
        b : ℕ → Bool
        b j = eqb (t j) o && c j

        low : (j : ℕ) (a : Bool) → cond a (t j) (s j) < m
        low j true = (t_least j).below
        low j false = (s_least j).below

        inside : (j : ℕ) (a d : Bool) → Eq? (t j) o a → plus F o (cond (a && d) (t j) (s j)) ≡ true
        inside j true true (same e) = plus_new F o (t j) (sym e)
        inside j true false (same e) = plus_old F o (s j) (s_least j).is_in_lem
        inside j false d (diff e) = plus_old F o (s j) (s_least j).is_in_lem

        into : Routes I (plus F o) (λ j. cond (b j) (t j) (s j))
        into = record { below = λ j h. low j (b j); is_in_lem = λ j h. inside j (eqb (t j) o) (c j) (test (t j) o) }

    -- each o of H added
    adds : (H c : ℕ → Bool)
        → sum n (λ j. on (H (t j)) (on (c j) (A j))) ≤ sum m (λ o. on (H o) (opening o)) + sum n (λ j. on (H (t j)) (on (c j) (O j)))
    adds H c =
        omega (
          arith,
          sum_over m H (λ o. 0) (λ o. sum n (λ j. on (eqb (t j) o) (on (c j) (A j)))) opening (λ o. sum n (λ j. on (eqb (t j) o) (on (c j) (O j))))
              (λ o l e. omega (arith, add_part c o l)),
          gather m n H t (λ j. on (c j) (A j)) (λ j l. (t_least j).below),
          gather m n H t (λ j. on (c j) (O j)) (λ j l. (t_least j).below),
        )

    -- all of G added
    all_added : routed I s ≤ opening_cost I G + routed I t
    unfolding opening_cost
    all_added =
        omega (arith, adds G (λ j. true), sum_cong n (λ j l. on_true (A j) (t_least j).is_in_lem), sum_cong n (λ j l. on_true (O j) (t_least j).is_in_lem))

    -- ---- the map rho

    pre_in : (f o : ℕ) → G o ≡ true → eta I F o ≡ f → pre I F G f o ≡ true
    unfolding pre
    pre_in f o g e = rw (g, e, eqb_self f)

    pre_of : (f o : ℕ) → pre I F G f o ≡ true → (G o ≡ true) × (eta I F o ≡ f)
    unfolding pre
    pre_of f o h = (and_left (G o) (eqb (eta I F o) f) h, eqb-true (eta I F o) f (and_right (G o) (eqb (eta I F o) f) h))

    rho_least : (f : ℕ) → any m (pre I F G f) ≡ true → Least m (pre I F G f) (λ o. dist I o f) (rho I F G f)
    unfolding rho
    rho_least f e = arg_least m (pre I F G f) (λ o. dist I o f) e

    -- where eta takes client j's facility in G to its facility in F
    rho_at : (j : ℕ) → eta I F (t j) ≡ s j → Least m (pre I F G (s j)) (λ o. dist I o (s j)) (rho I F G (s j))
    rho_at j e = rho_least (s j) (any_of m (t j) (pre I F G (s j)) (t_least j).below (pre_in (s j) (t j) (t_least j).is_in_lem e))

    rho_near : (j : ℕ) → j < n → eta I F (t j) ≡ s j → service (rho I F G (s j)) j ≤ 2 * service (s j) j + service (t j) j
    rho_near j l e =
        omega (
          arith,
          via_first I M (rho I F G (s j)) (s j) j (rho_at j e).below (s_least j).below l,
          (rho_at j e).lowest (t j) (t_least j).below (pre_in (s j) (t j) (t_least j).is_in_lem e),
          dist_le I (t j) (s j) j l,
        )

    -- ---- closing each facility of F

    -- o is the one of G that is traded for its nearest in F; any other of G is added
    prim : ℕ → Bool
    prim o = eqb (rho I F G (eta I F o)) o

    -- client j's facility in F is the nearest to its facility in G
    close : ℕ → Bool
    close j = eqb (eta I F (t j)) (s j)

    -- where client j goes when its facility in F is closed
    moved : ℕ → ℕ
    moved j = cond (close j) (rho I F G (s j)) (eta I F (t j))

    -- the opening cost of o where it is traded
    paid : ℕ → ℕ
    paid o = on (G o && prim o) (opening o)

    paid_is : (o : ℕ) → G o ≡ true → rho I F G (eta I F o) ≡ o → paid o ≡ opening o
    unfolding paid prim
    paid_is o g e = rw (g, e, eqb_self o)

    -- With f closed its clients go where `moved` says, and that is in X, if X has all of F but f, and the facility that is traded for f.
    leave : (f : ℕ) (X : ℕ → Bool) → ((i : ℕ) → F i ≡ true → ¬ (f ≡ i) → X i ≡ true)
        → ((j : ℕ) → s j ≡ f → eta I F (t j) ≡ s j → X (rho I F G (s j)) ≡ true)
        → Routes I X (λ j. cond (eqb (s j) f) (moved j) (s j))
    unfolding moved close
    leave f X keep new =
        record {
          below = λ j l. low j (eqb (s j) f) (close j) (test (eta I F (t j)) (s j));
          is_in_lem = λ j l. inside j (eqb (s j) f) (test (s j) f) (close j) (test (eta I F (t j)) (s j));
        }
      where
        low : (j : ℕ) (a c : Bool) → Eq? (eta I F (t j)) (s j) c → cond a (cond c (rho I F G (s j)) (eta I F (t j))) (s j) < m
        low j true true (same e) = (rho_at j e).below
        low j true false (diff e) = (eta_least I F some_f (t j)).below
        low j false c q = (s_least j).below

        inside : (j : ℕ) (a : Bool) → Eq? (s j) f a → (c : Bool) → Eq? (eta I F (t j)) (s j) c
            → X (cond a (cond c (rho I F G (s j)) (eta I F (t j))) (s j)) ≡ true
        inside j true (same e) true (same q) = new j e q
        inside j true (same e) false (diff q) = keep (eta I F (t j)) (eta_least I F some_f (t j)).is_in_lem (λ p. q (sym p ∙ sym e))
        inside j false (diff e) c q = keep (s j) (s_least j).is_in_lem (λ p. e (sym p))

    -- closing f: in trade for rho f, or for nothing where no o of G has f for its nearest, and then another facility of F is the nearest to t 0
    close_part : (f : ℕ) → f < m → F f ≡ true
        → opening f + sum n (λ j. on (eqb (s j) f) (A j))
        ≤ sum m (λ o. on (eqb (eta I F o) f) (paid o)) + sum n (λ j. on (eqb (s j) f) (weight j * service (moved j) j))
    close_part f l e =
        cases (any m (pre I F G f))
        (λ q.
        let k : Least m (pre I F G f) (λ o. dist I o f) r = rho_least f q in
        let p : (G r ≡ true) × (eta I F r ≡ f) = pre_of f r k.is_in_lem in
        let w : on (eqb (eta I F r) f) (paid r) ≡ opening r = rw (p.1, eqb_self f) (paid_is r p.0 (ap (rho I F G) p.1)) in
        omega (
          arith,
          reroute I (λ j. eqb (s j) f) moved s,
          served_nearest I F some_f,
          sum_term m (λ o. on (eqb (eta I F o) f) (paid o)) r k.below,
          swap_by I F opt f l e r k.below (λ j. cond (eqb (s j) f) (moved j) (s j))
              (leave f (trade F f r) (λ i x y. plus_old (minus F f) r i (minus_in F f i y x))
              (λ j x y. plus_new (minus F f) r (rho I F G (s j)) (ap (rho I F G) (sym x)))),
        ))
        (λ q.
        omega (
          arith,
          reroute I (λ j. eqb (s j) f) moved s,
          served_nearest I F some_f,
          drop_by I F opt f (eta I F (t 0)) l e stays.below stays.is_in_lem (λ d. none q 0 (sym d)) (λ j. cond (eqb (s j) f) (moved j) (s j))
              (leave f (minus F f) (λ i x y. minus_in F f i y x) (λ j x y. absurd (none q j (y ∙ x)))),
        ))
      where
        r : ℕ
        r = rho I F G f

        stays : Least m F (dist I (t 0)) (eta I F (t 0))
        stays = eta_least I F some_f (t 0)

        none : any m (pre I F G f) ≡ false → (j : ℕ) → ¬ (eta I F (t j) ≡ f)
        none q j h = clash (pre_in f (t j) (t_least j).is_in_lem h) (none_of m (t j) (pre I F G f) q (t_least j).below)

    -- all that client j pays: when its facility in F is closed, and when its facility in G is added
    point : (j : ℕ) → j < n
        → weight j * service (moved j) j + on (G (t j) && not (prim (t j))) (on (close j) (O j))
        ≤ (2 * O j + A j) + on (G (t j) && not (prim (t j))) (on (close j) (A j))
    unfolding moved close prim
    point j l = go (G (t j)) (t_least j).is_in_lem (prim (t j)) (test (rho I F G (eta I F (t j))) (t j)) (close j) (test (eta I F (t j)) (s j))
      where
        go : (g : Bool) → g ≡ true → (d : Bool) → Eq? (rho I F G (eta I F (t j))) (t j) d → (c : Bool) → Eq? (eta I F (t j)) (s j) c
            → weight j * service (cond c (rho I F G (s j)) (eta I F (t j))) j + on (g && not d) (on c (O j))
            ≤ (2 * O j + A j) + on (g && not d) (on c (A j))
        go true x d y false (diff z) = omega (arith, mul-le-mul_left (weight j) (eta_near I M F G some_f some_g j l))
        go true x true (same y) true (same z) = omega (arith, ap (λ i. weight j * service i j) (ap (rho I F G) (sym z) ∙ y))
        go true x false (diff y) true (same z) = omega (arith, mul-le-mul_left (weight j) (rho_near j l z))
        go false x d y c z = absurd (true≢false (sym x))

    points : sum n (λ j. weight j * service (moved j) j) + sum n (λ j. on (G (t j) && not (prim (t j))) (on (close j) (O j)))
        ≤ 2 * routed I t + routed I s + sum n (λ j. on (G (t j) && not (prim (t j))) (on (close j) (A j)))
    points =
        omega (
          arith,
          sum_mono n point,
          sum_add n (λ j. weight j * service (moved j) j) (λ j. on (G (t j) && not (prim (t j))) (on (close j) (O j))),
          sum_add n (λ j. 2 * O j + A j) (λ j. on (G (t j) && not (prim (t j))) (on (close j) (A j))),
          sum_add n (λ j. 2 * O j) A,
          sum_mul n 2 O,
        )

    -- every facility of G is paid for once, in trade or added
    paid_once : sum m paid + sum m (λ o. on (G o && not (prim o)) (opening o)) ≡ opening_cost I G
    unfolding paid opening_cost
    paid_once = sym (sum_add m paid (λ o. on (G o && not (prim o)) (opening o))) ∙ sum_cong m (λ o l. on_split (G o) (prim o) (opening o))

    -- all the facilities of F closed, each by itself
    closes : opening_cost I F + routed I s ≤ sum m paid + sum n (λ j. weight j * service (moved j) j)
    unfolding opening_cost
    closes =
        omega (
          arith,
          sum_over m F opening (λ f. sum n (λ j. on (eqb (s j) f) (A j))) (λ f. sum m (λ o. on (eqb (eta I F o) f) (paid o)))
              (λ f. sum n (λ j. on (eqb (s j) f) (weight j * service (moved j) j))) close_part,
          gather m n F s A (λ j l. (s_least j).below),
          sum_cong n (λ j l. on_true (A j) (s_least j).is_in_lem),
          gather m m F (eta I F) paid (λ o l. (eta_least I F some_f o).below),
          sum_mono m (λ o l. on_le (F (eta I F o)) (paid o)),
          gather m n F s (λ j. weight j * service (moved j) j) (λ j l. (s_least j).below),
          sum_cong n (λ j l. on_true (weight j * service (moved j) j) (s_least j).is_in_lem),
        )

    pub bounded : OpenBounded I F G
    bounded =
        record {
          service = omega (arith, all_added, served_nearest I F some_f, served_nearest I G some_g);
          opening = omega (arith, closes, points, paid_once, adds (λ o. G o && not (prim o)) close, served_nearest I G some_g);
        }
