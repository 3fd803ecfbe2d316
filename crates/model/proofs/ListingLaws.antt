-- Sets as falling lists: a set of t numbers below m is a list of t numbers that fall, its members from the largest down.
use Prim.Native.Nat.{ℕ, zero, suc, ◌≤◌, ◌<◌}
use native.Mathlib.Nat.{le_refl, le_step, lt-suc_self, not-suc-le-zero}
use native.Mathlib.Omega.{arith}
use mathlib.Core.Path.{◌≡◌, refl}
use mathlib.Core.Logic.{◌⊎◌, inl, inr}
use mathlib.Core.Bool.{Bool, true, false, ◌||◌}
use mathlib.Core.List.{List, [], ◌∷◌}
use borrow.Author.Tests.{eqb-true}
use lib.Dec.{eqb}
use lib.ListN.{length}
use Rattle.model.specs.Loops.{sum}
use Rattle.model.specs.Sets.{count}
use Rattle.model.proofs.Bools.{cases, eqb_self}
use Rattle.model.proofs.LoopLaws.{last_or}

-- is i in the list
abbrev pub mem : List ℕ → ℕ → Bool
mem [] i = false
mem (x ∷ xs) i = eqb x i || mem xs i

-- the numbers of the list are below m, and fall
abbrev pub Falls : ℕ → List ℕ → Type 0
Falls m [] = Unit {0}
Falls m (x ∷ xs) = (x < m) × Falls x xs

-- S says b of each number of the list
abbrev pub Each : (ℕ → Bool) → Bool → List ℕ → Type 0
Each S b [] = Unit {0}
Each S b (x ∷ xs) = (S x ≡ b) × Each S b xs

-- ---- the members of S below m, the largest first

put : Bool → ℕ → List ℕ → List ℕ
put true x xs = x ∷ xs
put false x xs = xs

pub listing : ℕ → (ℕ → Bool) → List ℕ
listing zero S = []
listing (suc m) S = put (S m) m (listing m S)

falls_more : (m : ℕ) (xs : List ℕ) → Falls m xs → Falls (suc m) xs
falls_more m [] h = tt
falls_more m (x ∷ xs) h = (le_step h.0, h.1)

pub listing_falls : (m : ℕ) (S : ℕ → Bool) → Falls m (listing m S)
unfolding listing put
listing_falls zero S = tt
listing_falls (suc m) S =
    cases (S m)
    (λ e. rw e (lt-suc_self m, listing_falls m S))
    (λ e. rw e (falls_more m (listing m S) (listing_falls m S)))

pub listing_length : (m : ℕ) (S : ℕ → Bool) → length (listing m S) ≡ count m S
unfolding listing put sum
listing_length zero S = refl
listing_length (suc m) S =
    let ih = listing_length m S in
    cases (S m) (λ e. rw e (omega arith)) (λ e. rw e (omega arith))

-- what F says of the members of S it says of their listing
pub listing_each : (m : ℕ) (S F : ℕ → Bool) (b : Bool) → ((i : ℕ) → S i ≡ true → F i ≡ b) → Each F b (listing m S)
unfolding listing put
listing_each zero S F b h = tt
listing_each (suc m) S F b h =
    cases (S m)
    (λ e. rw e (h m e, listing_each m S F b h))
    (λ e. rw e (listing_each m S F b h))

-- a list that falls from m has no number from m on
falls_not : (m k : ℕ) (xs : List ℕ) → Falls m xs → m ≤ k → mem xs k ≡ false
falls_not m k [] h l = refl
falls_not m k (x ∷ xs) h l =
    cases (eqb x k)
    (λ e. let q = eqb-true x k e in let f = h.0 in absurd (omega arith))
    (λ e. rw e (falls_not x k xs h.1 (let f = h.0 in omega arith)))

pub listing_mem : (m : ℕ) (S : ℕ → Bool) (i : ℕ) → i < m → mem (listing m S) i ≡ S i
unfolding listing put
listing_mem zero S i h = absurd (not-suc-le-zero h)
listing_mem (suc m) S i h = go (last_or h) (listing_mem m S i)
  where
    go : (i ≡ m) ⊎ (i < m) → (i < m → mem (listing m S) i ≡ S i) → mem (put (S m) m (listing m S)) i ≡ S i
    go (inl q) ih =
        rw q (cases (S m)
        (λ e. rw (e, eqb_self m))
        (λ e. rw e (falls_not m m (listing m S) (listing_falls m S) (le_refl m))))
    go (inr q) ih =
        cases (S m)
        (λ e. cases (eqb m i) (λ k. let k2 = eqb-true m i k in absurd (omega arith)) (λ k. rw (e, k) (ih q)))
        (λ e. rw e (ih q))
