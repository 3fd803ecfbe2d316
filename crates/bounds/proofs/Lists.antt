-- From exchanges of sets to exchanges that a loop can try: "no exchange of at most q facilities helps" follows from falling lists of at
-- most q numbers (`exchange_lists`), and for q = 1 from single swaps (`list_optimum_one`).
use Prim.Native.Nat.{ℕ, ◌≤◌, ◌<◌}
use native.Mathlib.Omega.{arith}
use mathlib.Core.Path.{◌≡◌, refl}
use mathlib.Core.Bool.{Bool, true, false, not, ◌&&◌, ◌||◌, or-true}
use mathlib.Core.List.{List, [], ◌∷◌}
use lib.Dec.{eqb}
use lib.ListN.{length}
use Rattle.model.specs.Sets.{trade}
use Rattle.model.specs.Instance.{Instance, service_cost}
use Rattle.model.proofs.ListingLaws.{mem, Falls, Each, listing, listing_falls, listing_length, listing_each, listing_mem}
use Rattle.model.proofs.CostLaws.{service_cong}
use Rattle.bounds.specs.Optimum.{exchange, LimitedOptimum}

-- no exchange of falling lists of at most q facilities lowers the service cost of F
abbrev pub ListOptimum : Instance → ℕ → (ℕ → Bool) → Type 0
ListOptimum I q F =
    (xs ys : List ℕ) → Falls I.facilities xs → Falls I.facilities ys → Each F true xs → Each F false ys → length xs ≡ length ys → length ys ≤ q
    → service_cost I F ≤ service_cost I (exchange F (mem xs) (mem ys))

pub exchange_lists : (I : Instance) (q : ℕ) (F : ℕ → Bool) → ListOptimum I q F → LimitedOptimum I q F
exchange_lists I q F opt X Y X_in Y_out sizes small =
    let m = I.facilities in
    let l_x = listing_length m X in
    let l_y = listing_length m Y in
    let s = opt (listing m X) (listing m Y) (listing_falls m X) (listing_falls m Y)
    (listing_each m X F true (λ i h. (X_in i h).1)) (listing_each m Y F false (λ i h. (Y_out i h).1)) (omega arith) (omega arith) in
    let e = service_cong I (exchange F (mem (listing m X)) (mem (listing m Y))) (exchange F X Y)
    (λ i h. rw (listing_mem m X i h, listing_mem m Y i h)) in
    omega arith

-- ---- one at a time

none_moved : (b : Bool) → (b && true) || false ≡ b
none_moved true = refl
none_moved false = refl

-- a facility after the exchange of one, and after the swap; `come` and `out` say whether it is the one
one_moved : (come out b : Bool) → (b && not (out || false)) || (come || false) ≡ come || (not out && b)
one_moved true out b = or-true (b && not (out || false))
one_moved false true true = refl
one_moved false true false = refl
one_moved false false true = refl
one_moved false false false = refl

pub list_optimum_one : (I : Instance) (F : ℕ → Bool)
    → ((f o : ℕ) → f < I.facilities → F f ≡ true → o < I.facilities → F o ≡ false → service_cost I F ≤ service_cost I (trade F f o))
    → LimitedOptimum I 1 F
list_optimum_one I F swap = exchange_lists I 1 F lists
  where
    lists : ListOptimum I 1 F
    lists [] [] fx fy ex ey l s =
        let e = service_cong I (exchange F (mem []) (mem [])) F (λ i h. none_moved (F i)) in omega arith
    lists [] (y ∷ ys) fx fy ex ey l s = absurd (omega arith)
    lists (x ∷ xs) [] fx fy ex ey l s = absurd (omega arith)
    lists (x ∷ []) (y ∷ []) fx fy ex ey l s =
        let e = service_cong I (exchange F (mem (x ∷ [])) (mem (y ∷ []))) (trade F x y) (λ i h. one_moved (eqb y i) (eqb x i) (F i)) in
        omega (arith, swap x y fx.0 ex.0 fy.0 ey.0)
    lists (x ∷ []) (y ∷ y' ∷ ys) fx fy ex ey l s = absurd (omega arith)
    lists (x ∷ x' ∷ xs) (y ∷ ys) fx fy ex ey l s = absurd (omega arith)
