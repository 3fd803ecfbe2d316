-- Laws of local search: each step goes to the earliest neighbour of least cost, and the search ends where no neighbour costs less.
-- Idea: every step lowers the cost, so the cost of a set is fuel enough from it, and a search that is cut may be continued.
use Prim.Native.Nat.{ℕ, zero, suc, ◌+◌, ◌-◌, ◌≤◌, ◌<◌}
use native.Mathlib.Nat.{le_refl, le_trans, zero-add, suc-add, add-suc, add-zero}
use native.Mathlib.Omega.{arith}
use native.Mathlib.Decide.{dec_lt}
use mathlib.Core.Path.{◌≡◌, refl, sym, ap, subst, ◌∙◌}
use mathlib.Core.Logic.{inl, inr}
use mathlib.Core.Bool.{Bool, true, false, cond}
use mathlib.Core.List.Memᴰ
use mathlib.Core.List.{List, [], ◌∷◌, ◌++◌}
use borrow.Author.Tests.{lt-ltb, le-ltb}
use lib.Dec.{ltb}
use Rattle.model.specs.Search as Search
use Rattle.model.specs.Search.{Among, Reached, reached, better, best, NoLower, Earliest}
use Rattle.model.proofs.Bools.{Lt?, less, more, test<}

module _ (cost : ℕ → ℕ) where
  -- ---- the best of a list

  -- the better of two sets costs at most what each of them costs
  pub better_le : (x b : ℕ) → (cost (better cost x b) ≤ cost x) × (cost (better cost x b) ≤ cost b)
  unfolding better
  better_le x b = go (ltb (cost x) (cost b)) (test< (cost x) (cost b))
    where
      go : (t : Bool) → Lt? (cost x) (cost b) t → (cost (cond t x b) ≤ cost x) × (cost (cond t x b) ≤ cost b)
      go true (less l) = omega arith
      go false (more l) = omega arith

  pub best_le : (b : ℕ) (xs : List ℕ) → cost (best cost b xs) ≤ cost b
  unfolding best
  best_le b [] = le_refl (cost b)
  best_le b (x ∷ xs) = le_trans (best_le (better cost x b) xs) (better_le x b).1

  pub best_least : (b : ℕ) (xs : List ℕ) → NoLower cost xs (best cost b xs)
  unfolding best
  best_least b [] x h = absurd (Memᴰ.not-nil h)
  best_least b (y ∷ ys) x h =
      elim (Memᴰ.cases_cons h) [
        | inl e ↦ rw e (le_trans (best_le (better cost y b) ys) (better_le y b).0)
        | inr k ↦ best_least (better cost y b) ys x k
      ]

  pub best_append : (b : ℕ) (xs ys : List ℕ) → best cost b (xs ++ ys) ≡ best cost (best cost b xs) ys
  unfolding best
  best_append b [] ys = refl
  best_append b (x ∷ xs) ys = best_append (better cost x b) xs ys

  better_lower : (x b : ℕ) → cost x < cost b → better cost x b ≡ x
  unfolding better
  better_lower x b l = rw (lt-ltb (cost x) (cost b) l)

  better_stays : (x b : ℕ) → cost b ≤ cost x → better cost x b ≡ b
  unfolding better
  better_stays x b l = rw (le-ltb (cost x) (cost b) l)

  best_stays : (b : ℕ) (xs : List ℕ) → cost b ≤ cost (best cost b xs) → best cost b xs ≡ b
  unfolding best
  best_stays b [] h = refl
  best_stays b (x ∷ xs) h =
      elim (dec_lt (cost x) (cost b)) [
        | yes l ↦ absurd (omega (arith, best_le x xs, rw (better_lower x b l) at h))
        | no g ↦
            let e = better_stays x b (omega arith) in
            rw e (best_stays b xs (rw e at h))
      ]

  stands_first : (x : ℕ) (xs : List ℕ) → NoLower cost xs x → Earliest cost (x ∷ xs) x
  stands_first x xs h =
      record { before = []; after = xs; place = refl; earlier = λ y k. absurd (Memᴰ.not-nil k); later = h }

  stands_later : (x y : ℕ) (xs : List ℕ) → cost y < cost x → Earliest cost xs y → Earliest cost (x ∷ xs) y
  stands_later x y xs l r =
      record {
        before = x ∷ r.before;
        after = r.after;
        place = ap (λ zs. x ∷ zs) r.place;
        earlier = λ z h. elim (Memᴰ.cases_cons h) [ inl e ↦ rw e l | inr k ↦ r.earlier z k ];
        later = r.later;
      }

  -- where the best costs less it is of the list, of least cost there, and the earliest of those
  pub best_earliest : (b : ℕ) (xs : List ℕ) → cost (best cost b xs) < cost b → Earliest cost xs (best cost b xs)
  unfolding best
  best_earliest b [] h = absurd (omega arith)
  best_earliest b (x ∷ xs) h =
      elim (dec_lt (cost x) (cost b)) [
        | yes l ↦
            rw (better_lower x b l) (elim (dec_lt (cost (best cost x xs)) (cost x)) [
              | yes k ↦ stands_later x (best cost x xs) xs k (best_earliest x xs k)
              | no g ↦
                  let e = best_stays x xs (omega arith) in
                  rw e (stands_first x xs (λ y k. rw e at (best_least x xs y k)))
            ])
        | no g ↦
            let e = better_stays x b (omega arith) in
            let lower = rw e at h in
            rw e (stands_later x (best cost b xs) xs (omega arith) (best_earliest b xs lower))
      ]

  module _ (neighbours : ℕ → List ℕ) where
    -- short names for the search by this cost and these neighbours
    abbrev next : ℕ → ℕ
    next = Search.next cost neighbours

    abbrev descend : ℕ → ℕ → ℕ → Reached
    descend = Search.descend cost neighbours

    abbrev search : ℕ → Reached
    search = Search.search cost neighbours

    -- ---- one step

    pub step_earliest : (set : ℕ) → cost (next set) < cost set → Earliest cost (neighbours set) (next set)
    unfolding Search.next
    step_earliest set h = best_earliest set (neighbours set) h

    -- a step goes to a neighbour
    pub step_among : (set : ℕ) → cost (next set) < cost set → Among (next set) (neighbours set)
    step_among set h =
        let r = step_earliest set h in
        subst (λ xs. Among (next set) xs) (sym r.place) (Memᴰ.append_right r.before (Memᴰ.head refl))

    -- where the next set does not cost less, no neighbour does
    pub no_step : (set : ℕ) → cost set ≤ cost (next set) → NoLower cost (neighbours set) set
    unfolding Search.next
    no_step set h x k = le_trans h (best_least set (neighbours set) x k)

    -- there the next set is the set itself
    pub next_stays : (set : ℕ) → cost set ≤ cost (next set) → next set ≡ set
    unfolding Search.next
    next_stays set h = best_stays set (neighbours set) h

    pub descend_stops : (fuel set steps : ℕ) → cost set ≤ cost (next set) → descend fuel set steps ≡ reached set steps
    unfolding Search.descend
    descend_stops zero set steps h = refl
    descend_stops (suc fuel) set steps h = rw (le-ltb (cost (next set)) (cost set) h, Search.descend)

    pub descend_moves : (fuel set steps : ℕ) → cost (next set) < cost set
        → descend (suc fuel) set steps ≡ descend fuel (next set) (suc steps)
    unfolding Search.descend
    descend_moves fuel set steps h = rw (lt-ltb (cost (next set)) (cost set) h, Search.descend)

    -- ---- what a search of any length does

    -- each step lowers the cost
    descend_falls : (fuel set steps : ℕ) → cost (descend fuel set steps).set + (descend fuel set steps).steps ≤ cost set + steps
    unfolding Search.descend
    descend_falls zero set steps = le_refl (cost set + steps)
    descend_falls (suc fuel) set steps =
        elim (dec_lt (cost (next set)) (cost set)) [
          | yes l ↦ rw (descend_moves fuel set steps l) (omega (arith, descend_falls fuel (next set) (suc steps)))
          | no g ↦ rw (descend_stops (suc fuel) set steps (omega arith)) (le_refl (cost set + steps))
        ]

    pub never_dearer : (limit start : ℕ) → cost (descend limit start 0).set + (descend limit start 0).steps ≤ cost start
    never_dearer limit start = omega (arith, descend_falls limit start 0)

    -- what neighbours keep, the search keeps
    pub descend_keeps : (P : ℕ → Type 0) → ((set x : ℕ) → P set → Among x (neighbours set) → P x)
        → (fuel start steps : ℕ) → P start → P (descend fuel start steps).set
    unfolding Search.descend
    descend_keeps P keeps zero start steps p = p
    descend_keeps P keeps (suc fuel) start steps p =
        elim (dec_lt (cost (next start)) (cost start)) [
          | yes l ↦
              rw (descend_moves fuel start steps l)
              (descend_keeps P keeps fuel (next start) (suc steps) (keeps start (next start) p (step_among start l)))
          | no g ↦ rw (descend_stops (suc fuel) start steps (omega arith)) p
        ]

    pub search_keeps : (P : ℕ → Type 0) → ((set x : ℕ) → P set → Among x (neighbours set) → P x)
        → (start : ℕ) → P start → P (search start).set
    unfolding Search.search
    search_keeps P keeps start p = descend_keeps P keeps _ start 0 p

    -- ---- where the search ends

    -- with fuel enough no step is left
    descend_done : (fuel set steps : ℕ) → cost set ≤ fuel
        → cost (descend fuel set steps).set ≤ cost (next (descend fuel set steps).set)
    unfolding Search.descend
    descend_done zero set steps enough = omega arith
    descend_done (suc fuel) set steps enough =
        elim (dec_lt (cost (next set)) (cost set)) [
          | yes l ↦ rw (descend_moves fuel set steps l) (descend_done fuel (next set) (suc steps) (omega arith))
          | no g ↦
              let h : cost set ≤ cost (next set) = omega arith in
              rw (descend_stops (suc fuel) set steps h) h
        ]

    -- no neighbour costs less, and the steps are no more than what the cost fell by
    pub record Ends (start : ℕ) (r : Reached) : Type 0 where
      pub no_lower : NoLower cost (neighbours r.set) r.set
      pub few_steps : r.steps + cost r.set ≤ cost start

    pub search_ends : (start : ℕ) → Ends start (search start)
    unfolding Search.search
    search_ends start =
        record {
          no_lower = no_step _ (descend_done _ start 0 (le_refl (cost start)));
          few_steps = omega (arith, never_dearer (cost start) start);
        }

    -- ---- a search that is cut and continued

    -- a search of a steps and then of b more is the search of a + b
    pub descend_adds : (a b set steps : ℕ)
        → descend (a + b) set steps ≡ descend b (descend a set steps).set (descend a set steps).steps
    unfolding Search.descend
    descend_adds zero b set steps = rw zero-add
    descend_adds (suc a) b set steps =
        elim (dec_lt (cost (next set)) (cost set)) [
          | yes l ↦ rw (suc-add, descend_moves (a + b) set steps l, descend_moves a set steps l) (descend_adds a b (next set) (suc steps))
          | no g ↦
              let h : cost set ≤ cost (next set) = omega arith in
              rw (descend_stops (suc a + b) set steps h, descend_stops (suc a) set steps h) (sym (descend_stops b set steps h))
        ]

    -- more fuel than the cost changes nothing
    pub fuel_enough : (fuel set steps : ℕ) → cost set ≤ fuel → descend fuel set steps ≡ descend (cost set) set steps
    fuel_enough fuel set steps enough =
        let e : fuel ≡ cost set + (fuel - cost set) = omega arith in
        let done = descend_done (cost set) set steps (le_refl (cost set)) in
        ap (λ k. descend k set steps) e ∙ descend_adds (cost set) (fuel - cost set) set steps
        ∙ descend_stops (fuel - cost set) _ _ done

    -- steps made before are added to the count, and change nothing else
    pub descend_shifts : (fuel set k j : ℕ)
        → descend fuel set (k + j) ≡ reached (descend fuel set j).set (k + (descend fuel set j).steps)
    unfolding Search.descend
    descend_shifts zero set k j = refl
    descend_shifts (suc fuel) set k j =
        elim (dec_lt (cost (next set)) (cost set)) [
          | yes l ↦
              rw (descend_moves fuel set (k + j) l, descend_moves fuel set j l, ← add-suc k j)
              (descend_shifts fuel (next set) k (suc j))
          | no g ↦
              let h : cost set ≤ cost (next set) = omega arith in
              rw (descend_stops (suc fuel) set (k + j) h, descend_stops (suc fuel) set j h)
        ]

    -- A search that is stopped after any number of steps and continued ends where the unbroken one does, and the counts add up.
    pub continued : (limit start : ℕ) → ((search (descend limit start 0).set).set ≡ (search start).set)
        × ((descend limit start 0).steps + (search (descend limit start 0).set).steps ≡ (search start).steps)
    unfolding Search.search
    continued limit start =
        let at = (descend limit start 0).set in
        let made = (descend limit start 0).steps in
        let e : reached (search at).set (made + (search at).steps) ≡ search start =
        sym (descend_shifts (cost at) at made 0) ∙ ap (λ k. descend (cost at) at k) (add-zero made)
        ∙ sym (fuel_enough (cost start) at made (omega (arith, never_dearer limit start)))
        ∙ sym (descend_adds limit (cost start) start 0) ∙ fuel_enough (limit + cost start) start 0 (omega arith)
        in
        (ap (λ (r : Reached). r.set) e, ap (λ (r : Reached). r.steps) e)
