-- The counting part of the limited theorem: from what single exchanges gain to the bound, for any sets F and G, any map η into F, and any
-- weights a, b, c of facilities. No clients and no service costs here.
-- The members of G that η sends to f are the group of f. A group of s members is exchanged for f and s - 1 facilities to which η sends nothing,
-- its pads; there are enough of those, as G is no larger than F. A group of more than q members comes in one by one, each for the cheapest pad.
use Prim.Native.Nat.{ℕ, zero, suc, ◌+◌, ◌*◌, ◌≤◌, ◌<◌, pred}
use native.Mathlib.Nat.{le_refl, le_trans, le_of_eq, mul-le-mul_left, mul-le-mul_right, le_of_suc-le}
use native.Mathlib.Omega.{arith}
use mathlib.Core.Path.{◌≡◌, sym, ◌∙◌}
use mathlib.Core.Bool.{Bool, true, false, not, ◌&&◌}
use borrow.Author.Tests.{eqb-true, ltb-true, ltb-false, not-true}
use lib.Dec.{eqb, ltb}
use Rattle.model.specs.Loops.{on, sum}
use Rattle.model.specs.Least.{arg}
use Rattle.model.specs.Sets.{sum_on, count, plus}
use Rattle.model.proofs.Bools.{cases, and_left, and_right, and_both, or_cases, fails, eqb_self, eqb_swap}
use Rattle.model.proofs.SumLaws.{sum_mono, sum_cong, sum_add, sum_one, on_and, on_swap, gather}
use Rattle.model.proofs.CountLaws.{count_zero, count_find, count_some, sum_shift, sum_above, count_plus, sum_plus_le, first, rest, count_first, first_in, rest_in, sum_split}
use Rattle.model.proofs.LeastLaws.{any_counted, arg_least}

-- the members of G that η sends to f
group : (ℕ → Bool) → (ℕ → ℕ) → ℕ → ℕ → Bool
group G η f o = G o && eqb (η o) f

-- how many they are
deg : ℕ → (ℕ → Bool) → (ℕ → ℕ) → ℕ → ℕ
deg m G η f = count m (group G η f)

-- the members of F to which η sends nothing of G
idle : ℕ → (ℕ → Bool) → (ℕ → Bool) → (ℕ → ℕ) → ℕ → Bool
idle m F G η i = F i && not (ltb 0 (deg m G η i))

-- the arithmetic of a large group: t + 1 members and t ≥ q pads, the cheapest of which costs r
large_arith : (q t x y r p : ℕ) → q ≤ t → t * r ≤ p → x ≤ y + suc t * (2 * r) → q * x ≤ q * y + 2 * ((q + 1) * p)
large_arith q t x y r p qt rp h = omega (arith, mul-le-mul_left q h, mul-le-mul_left (q + 1) rp, mul-le-mul_right r qt)

small_arith : (q x y w : ℕ) → x ≤ y + 2 * w → q * x ≤ q * y + 2 * ((q + 1) * w)
small_arith q x y w h = omega (arith, mul-le-mul_left q h)

-- the arithmetic of one group more: its pads P are taken from the pool R, Q is left
step_arith : (q A B C R x y k P Q : ℕ)
    → q * A ≤ q * B + 2 * ((q + 1) * (C + Q)) → q * x ≤ q * y + 2 * ((q + 1) * (k + P)) → R ≡ P + Q
    → q * (A + x) ≤ q * (B + y) + 2 * ((q + 1) * (C + k + R))
step_arith q A B C R x y k P Q h g e = rw e (omega arith)

module _ (m q : ℕ) (F G : ℕ → Bool) (η : ℕ → ℕ) (a b c : ℕ → ℕ)
    (q_pos : 1 ≤ q) (few : count m G ≤ count m F)
    (η_lt : (o : ℕ) → η o < m) (η_in : (o : ℕ) → F (η o) ≡ true)
    (gain : (X Y : ℕ → Bool) → ((i : ℕ) → X i ≡ true → F i ≡ true) → count m Y ≤ count m X → count m Y ≤ q
    → ((o : ℕ) → o < m → G o ≡ true → X (η o) ≡ true → Y o ≡ true)
    → sum_on m Y a ≤ sum_on m Y b + 2 * sum_on m X c)
  where
    -- a member of G is in the group of its image
    deg_pos : (o : ℕ) → o < m → G o ≡ true → 1 ≤ deg m G η (η o)
    unfolding deg group
    deg_pos o h e = count_some m o (group G η (η o)) h (and_both e (eqb_self (η o)))

    idle_in : (i : ℕ) → idle m F G η i ≡ true → F i ≡ true
    unfolding idle
    idle_in i h = and_left (F i) (not (ltb 0 (deg m G η i))) h

    idle_zero : (i : ℕ) → idle m F G η i ≡ true → deg m G η i ≤ 0
    unfolding idle
    idle_zero i k = ltb-false 0 (deg m G η i) (not-true _ (and_right (F i) (not (ltb 0 (deg m G η i))) k))

    -- nothing of G is sent to an idle facility
    idle_no : (o : ℕ) → o < m → G o ≡ true → idle m F G η (η o) ≡ true → ⊥
    idle_no o h e k = omega (arith, idle_zero (η o) k, deg_pos o h e)

    -- an empty group has no weight
    deg_zero : (f : ℕ) (w : ℕ → ℕ) → deg m G η f ≤ 0 → sum_on m (group G η f) w ≡ 0
    unfolding deg
    deg_zero f w h = count_zero m (group G η f) w (omega arith)

    -- a facility with a group is in F
    deg_in : (f : ℕ) → 1 ≤ deg m G η f → F f ≡ true
    unfolding deg group
    deg_in f h =
        let r = count_find m (group G η f) h in
        rw (eqb-true (η r.0) f (and_right (G r.0) (eqb (η r.0) f) r.2)) at (η_in r.0)

    -- an idle facility r exchanged for one facility o
    single : (r o : ℕ) → r < m → o < m → idle m F G η r ≡ true → a o ≤ b o + 2 * c r
    single r o hr ho e =
        let g = gain (eqb r) (eqb o)
        (λ i k. rw (eqb-true r i k) at (idle_in r e))
        (le_of_eq (sum_one m o (λ i. 1) ho ∙ sym (sum_one m r (λ i. 1) hr)))
        (le_trans (le_of_eq (sum_one m o (λ i. 1) ho)) q_pos)
        (λ o2 h2 g2 k. absurd (idle_no o2 h2 g2 (rw (eqb-true r (η o2) k) at e))) in
        omega (arith, sum_one m o a ho, sum_one m o b ho, sum_one m r c hr)

    -- A large group, of at least q pads P: each member comes in by a single exchange with the cheapest pad r.
    large : (f r : ℕ) (P : ℕ → Bool) → ((i : ℕ) → P i ≡ true → idle m F G η i ≡ true)
        → count m (group G η f) ≡ suc (count m P) → q ≤ count m P
        → r < m → P r ≡ true → ((i : ℕ) → i < m → P i ≡ true → c r ≤ c i)
        → q * sum_on m (group G η f) a ≤ q * sum_on m (group G η f) b + 2 * ((q + 1) * (c f + sum_on m P c))
    large f r P P_idle sizes many r_lt r_in r_least =
        let low = sum_above m (c r) P c r_least in
        let up = sum_shift m (2 * c r) (group G η f) a b (λ o k e. single r o r_lt k (P_idle r r_in)) in
        let all = large_arith q (count m P) (sum_on m (group G η f) a) (sum_on m (group G η f) b) (c r) (sum_on m P c) many low (rw sizes at up) in
        omega arith

    -- A group of at most q members: it is exchanged at once for f and its pads.
    small : (f : ℕ) → f < m → F f ≡ true → (P : ℕ → Bool) → ((i : ℕ) → P i ≡ true → idle m F G η i ≡ true) → P f ≡ false
        → count m (group G η f) ≡ suc (count m P) → count m (group G η f) ≤ q
        → q * sum_on m (group G η f) a ≤ q * sum_on m (group G η f) b + 2 * ((q + 1) * (c f + sum_on m P c))
    unfolding group
    small f f_lt f_in P P_idle P_f sizes few_in =
        let g = gain (plus P f) (group G η f)
        (λ i k. or_cases (eqb f i) (P i) k (λ s. rw (eqb-true f i s) at f_in) (λ e. idle_in i (P_idle i e)))
        (le_of_eq (sizes ∙ sym (count_plus m f P f_lt P_f)))
        few_in
        (λ o k e x. or_cases (eqb f (η o)) (P (η o)) x (λ s. and_both e (eqb_swap f (η o) s)) (λ s. absurd (idle_no o k e (P_idle (η o) s)))) in
        small_arith q (sum_on m (group G η f) a) (sum_on m (group G η f) b) (c f + sum_on m P c) (omega (arith, sum_plus_le m f P c f_lt))

    -- the bound for one group with its pads P
    group_bound : (f : ℕ) → f < m → 1 ≤ deg m G η f → (P : ℕ → Bool) → ((i : ℕ) → P i ≡ true → idle m F G η i ≡ true)
        → suc (count m P) ≡ deg m G η f
        → q * sum_on m (group G η f) a ≤ q * sum_on m (group G η f) b + 2 * ((q + 1) * (c f + sum_on m P c))
    unfolding deg
    group_bound f hf d P P_idle sizes =
        cases (ltb q (deg m G η f))
        (λ h.
        let h2 = ltb-true q (deg m G η f) h in
        let r = arg_least m P c (any_counted m P (omega arith)) in
        large f (arg m P c) P P_idle (sym sizes) (omega arith) r.below r.is_in_lem r.lowest)
        (λ h. small f hf (deg_in f d) P P_idle (fails (λ e. omega (arith, idle_zero f (P_idle f e)))) (sym sizes) (ltb-false q (deg m G η f) h))

    -- the bound for the groups of all f below i, with pads from the pool R
    all_groups : (i : ℕ) → i ≤ m → (R : ℕ → Bool) → ((r : ℕ) → R r ≡ true → idle m F G η r ≡ true)
        → sum i (λ f. pred (deg m G η f)) ≤ count m R
        → q * sum i (λ f. sum_on m (group G η f) a)
        ≤ q * sum i (λ f. sum_on m (group G η f) b) + 2 * ((q + 1) * (sum i (λ f. on (ltb 0 (deg m G η f)) (c f)) + sum_on m R c))
    unfolding sum
    all_groups zero h R R_idle enough = omega arith
    all_groups (suc f) h R R_idle enough =
        cases (ltb 0 (deg m G η f))
        (λ e.
        let d = ltb-true 0 (deg m G η f) e in
        let t = pred (deg m G η f) in
        let P = first t R in
        let Q = rest t R in
        let cf = count_first m t R in
        let cs = sum_split m t R (λ i. 1) in
        let ws = sum_split m t R c in
        let ih = all_groups f (le_of_suc-le h) Q (λ r k. R_idle r (rest_in t R r k)) (omega arith) in
        let g = group_bound f h d P (λ r k. R_idle r (first_in t R r k)) (omega arith) in
        rw e (step_arith q (sum f (λ i. sum_on m (group G η i) a)) (sum f (λ i. sum_on m (group G η i) b))
        (sum f (λ i. on (ltb 0 (deg m G η i)) (c i))) (sum_on m R c)
        (sum_on m (group G η f) a) (sum_on m (group G η f) b) (c f) (sum_on m P c) (sum_on m Q c) ih g ws))
        (λ e.
        let d = ltb-false 0 (deg m G η f) e in
        let ih = all_groups f (le_of_suc-le h) R R_idle (omega arith) in
        rw (e, deg_zero f a d) (step_arith q (sum f (λ i. sum_on m (group G η i) a)) (sum f (λ i. sum_on m (group G η i) b))
        (sum f (λ i. on (ltb 0 (deg m G η i)) (c i))) (sum_on m R c)
        0 (sum_on m (group G η f) b) 0 0 (sum_on m R c) ih (omega arith) (omega arith)))

    -- each member of G is in one group
    groups_all : (w : ℕ → ℕ) → sum m (λ f. sum_on m (group G η f) w) ≡ sum_on m G w
    unfolding group
    groups_all w =
        sum_cong m (λ f h. sum_cong m (λ o k. on_and (G o) (eqb (η o) f) (w o) ∙ on_swap (G o) (eqb (η o) f) (w o)))
        ∙ gather m m (λ f. true) η (λ o. on (G o) (w o)) (λ o k. η_lt o)

    -- there are enough idle facilities for all pads
    enough_pads : sum m (λ f. pred (deg m G η f)) ≤ count m (idle m F G η)
    unfolding deg idle
    enough_pads =
        omega (
          arith,
          few,
          sum_mono m (λ f h. point f),
          sum_add m (λ f. pred (deg m G η f)) (λ f. on (F f) 1),
          sum_add m (λ f. deg m G η f) (λ f. on (idle m F G η f) 1),
          groups_all (λ i. 1),
        )
      where
        point : (f : ℕ) → pred (deg m G η f) + on (F f) 1 ≤ deg m G η f + on (idle m F G η f) 1
        point f =
            cases (F f)
            (λ e. cases (ltb 0 (deg m G η f))
            (λ k. let d = ltb-true 0 (deg m G η f) k in rw (e, k) (omega arith))
            (λ k. rw (e, k) (omega arith)))
            (λ e. rw e (omega arith))

    -- the facilities with a group and the idle ones are in F
    within_f : sum m (λ f. on (ltb 0 (deg m G η f)) (c f)) + sum_on m (idle m F G η) c ≤ sum_on m F c
    unfolding idle
    within_f =
        omega (arith, sum_mono m (λ f h. point f), sum_add m (λ f. on (ltb 0 (deg m G η f)) (c f)) (λ f. on (idle m F G η f) (c f)))
      where
        point : (f : ℕ) → on (ltb 0 (deg m G η f)) (c f) + on (idle m F G η f) (c f) ≤ on (F f) (c f)
        point f =
            cases (ltb 0 (deg m G η f))
            (λ k. rw (k, deg_in f (ltb-true 0 (deg m G η f) k)) (omega arith))
            (λ k. cases (F f) (λ e. rw (k, e) (omega arith)) (λ e. rw (k, e) (omega arith)))

    pub total : q * sum_on m G a ≤ q * sum_on m G b + 2 * ((q + 1) * sum_on m F c)
    total =
        let g = all_groups m (le_refl m) (idle m F G η) (λ r h. h) enough_pads in
        let l = mul-le-mul_left (q + 1) within_f in
        let g2 = rw (groups_all a, groups_all b) at g in
        omega arith
