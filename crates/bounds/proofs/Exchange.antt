-- At most k facilities: what one exchange says of a set F that no exchange of at most q facilities makes cheaper,
-- and the bound that follows by `Groups`.
-- Document 000, 6.1 and 6.2. V. Arya, N. Garg, R. Khandekar, A. Meyerson, K. Munagala, V. Pandit, Local search heuristics for k-median and facility
-- location problems, 2004, in the form of A. Gupta, K. Tangwongsan, Simpler analyses of local search algorithms for facility location, 2008.
--
-- How the proof goes. s j and t j are the facilities of client j in F and in G, A j and O j what it costs to serve it there.
-- `client`: after an exchange of X for Y the clients that G has in Y go there, those that F had in X follow eta (`eta_near`), the others stay.
-- `gain`: so the clients of Y gain no more than twice what it costs G to serve those of X. `exchange_bound` sums that over the groups of eta.
-- No case is made of a facility that is in both sets: what comes in is Y without F, what goes out as many of X without Y.
use Prim.Native.Nat.{ℕ, ◌+◌, ◌*◌, ◌≤◌, ◌<◌}
use native.Mathlib.Nat.{mul-le-mul_left}
use native.Mathlib.Omega.{arith}
use mathlib.Core.Path.{◌≡◌, ◌∙◌}
use mathlib.Core.Bool.{Bool, true, false}
use lib.Dec.{eqb}
use Rattle.model.specs.Loops.{on, sum}
use Rattle.model.specs.Least.{any}
use Rattle.model.specs.Sets.{sum_on, count}
use Rattle.model.specs.Instance.{Instance, nearest, service_cost}
use Rattle.model.proofs.Bools.{cases, clash, fails}
use Rattle.model.proofs.SumLaws.{sum_linear, sum_cong, on_true, gather}
use Rattle.model.proofs.CountLaws.{first, count_first, first_in}
use Rattle.model.proofs.TestSetLaws.{difference, in_difference, difference_of, difference_few, fresh_count}
use Rattle.model.proofs.LeastLaws.{Least}
use Rattle.model.proofs.CostLaws.{nearest_le, served_nearest}
use Rattle.bounds.specs.Optimum.{Metric, exchange, LimitedOptimum}
use Rattle.bounds.proofs.Maps.{serve, dist, eta, eta_least, eta_near}
use Rattle.bounds.proofs.Groups.{total}

-- the sum of w over the clients below n that g sends to facility o
share : ℕ → (ℕ → ℕ) → (ℕ → ℕ) → ℕ → ℕ
share n g w o = sum n (λ j. on (eqb (g j) o) (w j))

module _ (I : Instance) (M : Metric I) (q : ℕ) (F G : ℕ → Bool)
    (q_pos : 1 ≤ q) (some_f : any I.facilities F ≡ true) (some_g : any I.facilities G ≡ true)
    (few : count I.facilities G ≤ count I.facilities F) (opt : LimitedOptimum I q F)
  where
    open I use {facilities as m, clients as n, service, weight}
    open serve I F some_f use {place as s, cost as A, least as s_least}
    open serve I G some_g use {place as t, cost as O, least as t_least}

    -- a client after an exchange, where the new set S has Y, has F without X, and X is hit by eta only from Y
    client : (S X Y : ℕ → Bool) → ((i : ℕ) → i < m → Y i ≡ true → S i ≡ true) → ((i : ℕ) → F i ≡ true → X i ≡ false → S i ≡ true)
        → ((o : ℕ) → o < m → G o ≡ true → X (eta I F o) ≡ true → Y o ≡ true)
        → (j : ℕ) → j < n
        → weight j * nearest I S j + on (Y (t j)) (A j) ≤ A j + on (Y (t j)) (O j) + 2 * on (X (s j)) (O j)
    client S X Y has_y has_f hit j l =
        cases (Y (t j))
        (λ y. rw y (omega (arith, served (t j) (t_least j).below (has_y (t j) (t_least j).below y))))
        (λ y. cases (X (s j))
        (λ x. rw (y, x) (omega (
          arith,
          served (eta I F (t j)) image.below (has_f (eta I F (t j)) image.is_in_lem (kept y)),
          mul-le-mul_left (weight j) (eta_near I M F G some_f some_g j l),
        )))
        (λ x. rw (y, x) (omega (arith, served (s j) (s_least j).below (has_f (s j) (s_least j).is_in_lem x)))))
      where
        served : (i : ℕ) → i < m → S i ≡ true → weight j * nearest I S j ≤ weight j * service i j
        served i k e = mul-le-mul_left (weight j) (nearest_le I S i j k e)

        image : Least m F (dist I (t j)) (eta I F (t j))
        image = eta_least I F some_f (t j)

        kept : Y (t j) ≡ false → X (eta I F (t j)) ≡ false
        kept y = fails (λ x. clash (hit (t j) (t_least j).below (t_least j).is_in_lem x) y)

    -- The exchange of X for Y, as `Groups` asks it: some of Y may be in F already, and X may be larger than Y.
    gain : (X Y : ℕ → Bool) → ((i : ℕ) → X i ≡ true → F i ≡ true) → count m Y ≤ count m X → count m Y ≤ q
        → ((o : ℕ) → o < m → G o ≡ true → X (eta I F o) ≡ true → Y o ≡ true)
        → sum_on m Y (share n t A) ≤ sum_on m Y (share n t O) + 2 * sum_on m X (share n s O)
    unfolding share service_cost
    gain X Y sub sizes small hit =
        let New = difference m Y F in
        let Left = difference m X Y in
        let k = count m New in
        let Out = first k Left in
        let S = exchange F Out New in
        let out : (i : ℕ) → Out i ≡ true → (i < m) × (X i ≡ true) × (Y i ≡ false) = λ i h. difference_of m X Y i (first_in k Left i h) in
        let c1 = fresh_count m F X Y sub sizes in
        let c2 = difference_few m Y F in
        let c3 = count_first m k Left in
        let no_cheaper = opt Out New
        (λ i h. ((out i h).0, sub i (out i h).1))
        (λ i h. let d = difference_of m Y F i h in (d.0, d.2))
        (omega arith) (omega arith) in
        let has_f : (i : ℕ) → F i ≡ true → Out i ≡ false → S i ≡ true = λ i f o. rw (f, o) in
        let all = sum_linear n (λ j. weight j * nearest I S j) (λ j. on (Y (t j)) (A j)) A (λ j. on (Y (t j)) (O j)) (λ j. on (X (s j)) (O j))
        (client S X Y
        (λ i l y. cases (F i)
        (λ f. has_f i f (fails (λ o. clash y (out i o).2)))
        (λ f. rw f (in_difference m Y F i l y f)))
        (λ i f x. has_f i f (fails (λ o. clash (out i o).1 x)))
        hit) in
        omega (
          arith,
          served_nearest I F some_f,
          gather m n Y t A (λ j l. (t_least j).below),
          gather m n Y t O (λ j l. (t_least j).below),
          gather m n X s O (λ j l. (s_least j).below),
        )

    -- all the clients are sent to F by s, and to G by t
    s_all : (w : ℕ → ℕ) → sum_on m F (share n s w) ≡ sum n w
    unfolding share
    s_all w = gather m n F s w (λ j l. (s_least j).below) ∙ sum_cong n (λ j l. on_true (w j) (s_least j).is_in_lem)

    t_all : (w : ℕ → ℕ) → sum_on m G (share n t w) ≡ sum n w
    unfolding share
    t_all w = gather m n G t w (λ j l. (t_least j).below) ∙ sum_cong n (λ j l. on_true (w j) (t_least j).is_in_lem)

    pub exchange_bound : q * service_cost I F ≤ (3 * q + 2) * service_cost I G
    exchange_bound =
        let b = total m q F G (eta I F) (share n t A) (share n t O) (share n s O) q_pos few
        (λ o. (eta_least I F some_f o).below) (λ o. (eta_least I F some_f o).is_in_lem) gain in
        let b2 = rw (t_all A, t_all O, s_all O) at b in
        rw (served_nearest I F some_f, served_nearest I G some_g) (omega arith)
