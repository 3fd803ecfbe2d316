-- Laws of neighbourhoods: every set in the list is a move, every move is in the list, and moves keep a set of facilities one.
-- Idea: membership in a join is membership in one of its lists, and each of those is empty or one set.
use Prim.Native.Nat.{ℕ, zero, suc, ◌^◌, ◌≤◌, ◌<◌}
use native.Mathlib.Nat.{le_step, lt-suc_self, not-suc-le-zero, lt_of_le_of_lt}
use native.Mathlib.Omega.{arith}
use mathlib.Core.Path.{◌≡◌, refl, subst}
use mathlib.Core.Logic.{◌⊎◌, inl, inr}
use mathlib.Core.Bool.{Bool, true, false, cond}
use mathlib.Core.List.Memᴰ
use mathlib.Core.List.{List, [], ◌∷◌, ◌++◌}
use borrow.Author.Tests.{le-leb, leb-true}
use lib.Dec.{leb}
use Rattle.model.specs.Loops.{join}
use Rattle.model.specs.Least.{any}
use Rattle.model.specs.Sets.{count, member, with, without}
use Rattle.model.specs.Neighbours.{add_at, adds, drop_at, drops, swap_at, swaps_out, swaps, add_drop_swap}
use Rattle.model.specs.Search.{Among}
use Rattle.model.proofs.LoopLaws.{last_or}
use Rattle.model.proofs.LeastLaws.{any_counted}
use Rattle.model.proofs.SetLaws.{with_below, with_some, without_le, count_without, count_trade}

-- ---- joins

pub among_join : (n i x : ℕ) (f : ℕ → List ℕ) → i < n → Among x (f i) → Among x (join n f)
unfolding join
among_join zero i x f l h = absurd (not-suc-le-zero l)
among_join (suc n) i x f l h = go (last_or l) (λ k. among_join n i x f k h)
  where
    go : (i ≡ n) ⊎ (i < n) → (i < n → Among x (join n f)) → Among x (join n f ++ f n)
    go (inl e) ih = Memᴰ.append_right (join n f) (subst (λ k. Among x (f k)) e h)
    go (inr k) ih = Memᴰ.append_left (f n) (ih k)

pub join_among : (n x : ℕ) (f : ℕ → List ℕ) → Among x (join n f) → (i : ℕ) × (i < n) × Among x (f i)
unfolding join
join_among zero x f h = absurd (Memᴰ.not-nil h)
join_among (suc n) x f h =
    elim (Memᴰ.append_cases (join n f) h) [
      | inl k ↦ let r = join_among n x f k in (r.0, le_step r.1, r.2)
      | inr k ↦ (n, lt-suc_self n, k)
    ]

-- what stands in a list behind a test: the test, and the list
cond_in : (b : Bool) (x : ℕ) (xs : List ℕ) → Among x (cond b xs []) → (b ≡ true) × Among x xs
cond_in true x xs h = (refl, h)
cond_in false x xs h = absurd (Memᴰ.not-nil h)

cond_out : (b : Bool) (x : ℕ) (xs : List ℕ) → Among x (cond b [] xs) → (b ≡ false) × Among x xs
cond_out true x xs h = absurd (Memᴰ.not-nil h)
cond_out false x xs h = (refl, h)

-- ---- what a neighbour is: a facility added, one dropped, or one swapped for another

pub data Move (m set x : ℕ) : Type 0 where
  added : (o : ℕ) → o < m → member set o ≡ false → x ≡ with set o → Move m set x
  dropped : (f : ℕ) → f < m → member set f ≡ true → 2 ≤ count m (member set) → x ≡ without set f → Move m set x
  swapped : (f o : ℕ) → f < m → member set f ≡ true → o < m → member set o ≡ false → x ≡ with (without set f) o → Move m set x

pub record Swap (m set x : ℕ) : Type 0 where
  pub out : ℕ
  pub into : ℕ
  pub out_below : out < m
  pub into_below : into < m
  pub out_open : member set out ≡ true
  pub into_shut : member set into ≡ false
  pub is : x ≡ with (without set out) into

module _ (m set : ℕ) where
  -- ---- every set in the list is a move

  pub among_swap : (x : ℕ) → Among x (swaps m set) → Swap m set x
  unfolding swaps swaps_out swap_at
  among_swap x h =
      let f = join_among m x (swaps_out m set) h in
      let out = cond_in (member set f.0) x (join m (swap_at set f.0)) f.2 in
      let o = join_among m x (swap_at set f.0) out.1 in
      let into = cond_out (member set o.0) x (with (without set f.0) o.0 ∷ []) o.2 in
      record {
        out = f.0;
        into = o.0;
        out_below = f.1;
        into_below = o.1;
        out_open = out.0;
        into_shut = into.0;
        is = Memᴰ.eq_of_singleton into.1;
      }

  pub among_move : (x : ℕ) → Among x (add_drop_swap m set) → Move m set x
  unfolding add_drop_swap adds add_at drops drop_at
  among_move x h =
      elim (Memᴰ.append_cases (adds m set ++ drops m set) h) [
        | inl k ↦
            elim (Memᴰ.append_cases (adds m set) k) [
              | inl a ↦
                  let o = join_among m x (add_at set) a in
                  let into = cond_out (member set o.0) x (with set o.0 ∷ []) o.2 in
                  added o.0 o.1 into.0 (Memᴰ.eq_of_singleton into.1)
              | inr d ↦
                  let two = cond_in (leb 2 (count m (member set))) x (join m (drop_at set)) d in
                  let f = join_among m x (drop_at set) two.1 in
                  let out = cond_in (member set f.0) x (without set f.0 ∷ []) f.2 in
                  dropped f.0 f.1 out.0 (leb-true 2 (count m (member set)) two.0) (Memᴰ.eq_of_singleton out.1)
            ]
        | inr s ↦
            let r = among_swap x s in
            swapped r.out r.into r.out_below r.out_open r.into_below r.into_shut r.is
      ]

  -- ---- every move is in the list

  pub swap_among : (f o : ℕ) → f < m → member set f ≡ true → o < m → member set o ≡ false
      → Among (with (without set f) o) (swaps m set)
  unfolding swaps swaps_out swap_at
  swap_among f o lf ef lo eo =
      among_join m f _ (swaps_out m set) lf (rw ef (among_join m o _ (swap_at set f) lo (rw eo (Memᴰ.head refl))))

  pub swap_among_all : (f o : ℕ) → f < m → member set f ≡ true → o < m → member set o ≡ false
      → Among (with (without set f) o) (add_drop_swap m set)
  unfolding add_drop_swap
  swap_among_all f o lf ef lo eo = Memᴰ.append_right (adds m set ++ drops m set) (swap_among f o lf ef lo eo)

  pub drop_among : (f : ℕ) → f < m → member set f ≡ true → 2 ≤ count m (member set) → Among (without set f) (add_drop_swap m set)
  unfolding add_drop_swap drops drop_at
  drop_among f l e two =
      Memᴰ.append_left (swaps m set) (Memᴰ.append_right (adds m set)
      (rw (le-leb 2 (count m (member set)) two) (among_join m f _ (drop_at set) l (rw e (Memᴰ.head refl)))))

  pub add_among : (o : ℕ) → o < m → member set o ≡ false → Among (with set o) (add_drop_swap m set)
  unfolding add_drop_swap adds add_at
  add_among o l e =
      Memᴰ.append_left (swaps m set) (Memᴰ.append_left (drops m set)
      (among_join m o _ (add_at set) l (rw e (Memᴰ.head refl))))

  -- ---- moves keep a set of facilities one

  module _ (small : set < 2 ^ m) where
    swapped_below : (f o : ℕ) → o < m → with (without set f) o < 2 ^ m
    swapped_below f o l = with_below m (without set f) o (lt_of_le_of_lt (without_le set f) small) l

    pub swaps_keep : (x : ℕ) → Among x (swaps m set) → (x < 2 ^ m) × (count m (member x) ≡ count m (member set))
    swaps_keep x h =
        let r = among_swap x h in
        rw r.is (
          swapped_below r.out r.into r.into_below,
          count_trade m set r.out r.into r.out_below r.into_below r.out_open r.into_shut,
        )

    pub move_keeps : (x : ℕ) → Move m set x → (x < 2 ^ m) × (any m (member x) ≡ true)
    move_keeps x (added o l e q) = rw q (with_below m set o small l, with_some m set o l)
    move_keeps x (dropped f l e two q) =
        rw q (
          lt_of_le_of_lt (without_le set f) small,
          any_counted m (member (without set f)) (omega (arith, count_without m set f l e)),
        )
    move_keeps x (swapped f o lf ef lo eo q) = rw q (swapped_below f o lo, with_some m (without set f) o lo)

    pub moves_keep : (x : ℕ) → Among x (add_drop_swap m set) → (x < 2 ^ m) × (any m (member x) ≡ true)
    moves_keep x h = move_keeps x (among_move x h)
