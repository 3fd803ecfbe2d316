-- Laws of the two least values: for loops, and after one number comes into the set or goes out of it.
-- One value more comes in by `insert`, in any order; so a set without o has the two from which `insert (v o)` makes those of the set.
use Prim.Native.Nat.{ℕ, zero, suc, ◌+◌, ◌≤◌, ◌<◌, min, max, zero-le}
use native.Mathlib.Nat.{le_refl, le_step, le_of_lt, lt-suc_self, not-suc-le-zero, min-eq_left, min-eq_right, max_comm}
use native.Mathlib.Numerals.{add-one}
use native.Mathlib.Omega.{arith}
use mathlib.Core.Path.{◌≡◌, refl, sym, ap, ap₂, ◌∙◌}
use mathlib.Core.Logic.{◌⊎◌, inl, inr}
use mathlib.Core.Bool.{Bool, true, false, cond, not, ◌&&◌, ◌||◌, true≢false}
use borrow.Author.Tests.{ltb-true, ltb-false, ne_eqb}
use lib.Dec.{eqb, ltb}
use Rattle.model.specs.Least.{any, least}
use Rattle.model.specs.TwoLeast.{Two, two, insert, two_least}
use Rattle.model.specs.Sets.{plus, minus}
use Rattle.model.proofs.Bools.{cases, eqb_self, Eq?, same, diff, test, Lt?, less, more, test<}
use Rattle.model.proofs.LeastLaws.{none_of}
use Rattle.model.proofs.GapLaws.{NoneFrom, gap}

-- ---- one value more

-- the two least of x and of two in order, in one formula
insert_is : (x : ℕ) (t : Two) → t.first ≤ t.second → insert x t ≡ two (min x t.first) (max t.first (min x t.second))
unfolding insert
insert_is x t h =
    cases (ltb x t.first)
    (λ e. let l = ltb-true x t.first e in rw e (ap₂ two (omega arith) (omega arith)))
    (λ e. let l = ltb-false x t.first e in cases (ltb x t.second)
    (λ f. let k = ltb-true x t.second f in rw (e, f) (ap₂ two (omega arith) (omega arith)))
    (λ f. let k = ltb-false x t.second f in rw (e, f) (ap₂ two (omega arith) (omega arith))))

pub first_with : (x : ℕ) (t : Two) → (insert x t).first ≡ min x t.first
unfolding insert
first_with x t =
    cases (ltb x t.first)
    (λ e. let l = ltb-true x t.first e in rw e (omega arith))
    (λ e. let l = ltb-false x t.first e in cases (ltb x t.second) (λ f. rw (e, f) (omega arith)) (λ f. rw (e, f) (omega arith)))

pub insert_ordered : (x : ℕ) (t : Two) → t.first ≤ t.second → (insert x t).first ≤ (insert x t).second
insert_ordered x t h = rw (insert_is x t h) (omega arith)

pub insert_below : (x h : ℕ) (t : Two) → t.first ≤ t.second → t.second ≤ h → (insert x t).second ≤ h
insert_below x h t o b = rw (insert_is x t o) (omega arith)

min_swap : (x y b : ℕ) → min x (min y b) ≡ min y (min x b)
min_swap x y b = omega arith

-- the second after x and y have come to a and b is the same in either order: where x is at most a, where both are at least a, and so always
second_less : (x y a b : ℕ) → a ≤ b → x ≤ a → max (min y a) (min x (max a (min y b))) ≡ max (min x a) (min y (max a (min x b)))
second_less x y a b h l =
    let left : min x (max a (min y b)) ≡ x = omega arith in
    let right : max a (min x b) ≡ a = omega arith in
    rw (left, right, min-eq_left l) (max_comm (min y a) x)

second_more : (x y a b : ℕ) → a ≤ b → a ≤ x → a ≤ y → max (min y a) (min x (max a (min y b))) ≡ max (min x a) (min y (max a (min x b)))
second_more x y a b h l k =
    let left : max a (min y b) ≡ min y b = omega arith in
    let right : max a (min x b) ≡ min x b = omega arith in
    rw (left, right, min-eq_right l, min-eq_right k) (ap (max a) (min_swap x y b))

second_free : (x y a b : ℕ) → a ≤ b → max (min y a) (min x (max a (min y b))) ≡ max (min x a) (min y (max a (min x b)))
second_free x y a b h = go (ltb x a) (test< x a) (ltb y a) (test< y a)
  where
    go : (c : Bool) → Lt? x a c → (d : Bool) → Lt? y a d → max (min y a) (min x (max a (min y b))) ≡ max (min x a) (min y (max a (min x b)))
    go true (less l) d k = second_less x y a b h (le_of_lt l)
    go false (more l) true (less k) = sym (second_less y x a b h (le_of_lt k))
    go false (more l) false (more k) = second_more x y a b h l k

-- the order in which two values come in does not matter
pub insert_order_free : (x y : ℕ) (t : Two) → t.first ≤ t.second → insert x (insert y t) ≡ insert y (insert x t)
insert_order_free x y t h =
    rw (insert_is x (insert y t) (insert_ordered y t h), insert_is y (insert x t) (insert_ordered x t h), insert_is x t h, insert_is y t h)
    (ap₂ two (omega arith) (second_free x y t.first t.second h))

-- ---- for loops in code

pub two_none : (h : ℕ) (S : ℕ → Bool) (v : ℕ → ℕ) → two h h ≡ two_least h 0 S v
unfolding two_least
two_none h S v = refl

pub two_more : (h : ℕ) (S : ℕ → Bool) (v : ℕ → ℕ) (i : ℕ)
    → two_least h (i + 1) S v ≡ cond (S i) (insert (v i) (two_least h i S v)) (two_least h i S v)
unfolding two_least
two_more h S v i = rw add-one

pub two_take : (h : ℕ) (S : ℕ → Bool) (v : ℕ → ℕ) (i : ℕ) → S i ≡ true → two_least h (i + 1) S v ≡ insert (v i) (two_least h i S v)
two_take h S v i e = two_more h S v i ∙ rw e

-- from i up to k no number is in S
pub two_skip : (h i k : ℕ) (S : ℕ → Bool) (v : ℕ → ℕ) → i ≤ k → NoneFrom S i k → two_least h k S v ≡ two_least h i S v
unfolding two_least
two_skip h i k S v l none = gap S (λ j. two_least h j S v) (λ j e. rw e) i k l none

pub two_cong : (h m : ℕ) (S T : ℕ → Bool) (v : ℕ → ℕ) → ((i : ℕ) → i < m → S i ≡ T i) → two_least h m S v ≡ two_least h m T v
unfolding two_least
two_cong h zero S T v agree = refl
two_cong h (suc m) S T v agree = rw (agree m (lt-suc_self m), two_cong h m S T v (λ i l. agree i (le_step l)))

-- ---- in order, and at most h

pub two_ordered : (h m : ℕ) (S : ℕ → Bool) (v : ℕ → ℕ) → (two_least h m S v).first ≤ (two_least h m S v).second
unfolding two_least
two_ordered h zero S v = le_refl h
two_ordered h (suc m) S v =
    let ih = two_ordered h m S v in
    cases (S m) (λ e. rw e (insert_ordered (v m) (two_least h m S v) ih)) (λ e. rw e ih)

pub two_below : (h m : ℕ) (S : ℕ → Bool) (v : ℕ → ℕ) → (two_least h m S v).second ≤ h
unfolding two_least
two_below h zero S v = le_refl h
two_below h (suc m) S v =
    let ih = two_below h m S v in
    cases (S m) (λ e. rw e (insert_below (v m) h (two_least h m S v) (two_ordered h m S v) ih)) (λ e. rw e ih)

-- ---- a number comes into the set

pub two_with : (h m i : ℕ) (S : ℕ → Bool) (v : ℕ → ℕ) → i < m → S i ≡ false → two_least h m (plus S i) v ≡ insert (v i) (two_least h m S v)
unfolding two_least
two_with h zero i S v l out = absurd (not-suc-le-zero l)
two_with h (suc m) i S v l out = go (eqb i m) (test i m) (λ k. two_with h m i S v k out)
  where
    go : (b : Bool) → Eq? i m b → (i < m → two_least h m (plus S i) v ≡ insert (v i) (two_least h m S v))
        → cond (b || S m) (insert (v m) (two_least h m (plus S i) v)) (two_least h m (plus S i) v)
        ≡ insert (v i) (cond (S m) (insert (v m) (two_least h m S v)) (two_least h m S v))
    go true (same e) ih =
        let apart = two_cong h m (plus S i) S v (λ k below. ap (λ (b : Bool). b || S k) (ne_eqb i k (λ q. omega arith))) in
        rw (ap S (sym e) ∙ out, apart, e)
    go false (diff d) ih =
        rw (ih (omega arith))
        (cases (S m)
        (λ e. rw e (insert_order_free (v m) (v i) (two_least h m S v) (two_ordered h m S v)))
        (λ e. rw e))

-- ---- a number goes out of the set

-- the set is what is left of it with the number again
two_again : (h m o : ℕ) (S : ℕ → Bool) (v : ℕ → ℕ) → o < m → S o ≡ true → two_least h m S v ≡ insert (v o) (two_least h m (minus S o) v)
two_again h m o S v l e =
    two_cong h m S (plus (minus S o) o) v (λ i k. again i (eqb o i) (test o i)) ∙ two_with h m o (minus S o) v l (rw (eqb_self o))
  where
    again : (i : ℕ) (b : Bool) → Eq? o i b → S i ≡ b || (not b && S i)
    again i true (same q) = ap S (sym q) ∙ e
    again i false (diff d) = refl

-- what is neither of the two least was no gain
insert_no_gain : (x : ℕ) (t : Two) → ¬ (x ≡ (insert x t).first) → ¬ (x ≡ (insert x t).second) → insert x t ≡ t
unfolding insert
insert_no_gain x t n k =
    cases (ltb x t.first)
    (λ e. absurd (n (rw e)))
    (λ e. cases (ltb x t.second) (λ f. absurd (k (rw (e, f)))) (λ f. rw (e, f)))

pub two_without : (h m o : ℕ) (S : ℕ → Bool) (v : ℕ → ℕ) → o < m → S o ≡ true
    → ¬ (v o ≡ (two_least h m S v).first) → ¬ (v o ≡ (two_least h m S v).second) → two_least h m (minus S o) v ≡ two_least h m S v
two_without h m o S v l e n k =
    let back = two_again h m o S v l e in
    sym (back ∙ insert_no_gain (v o) (two_least h m (minus S o) v) (rw back at n) (rw back at k))

-- where x is the first, the second was the first before
insert_before : (x : ℕ) (t : Two) → t.first ≤ t.second → t.first ≡ cond (eqb x (insert x t).first) (insert x t).second (insert x t).first
insert_before x t h = rw (insert_is x t h) (go (eqb x (min x t.first)) (test x (min x t.first)))
  where
    go : (b : Bool) → Eq? x (min x t.first) b → t.first ≡ cond b (max t.first (min x t.second)) (min x t.first)
    go true (same e) = omega arith
    go false (diff d) = omega arith

pub first_without : (h m o : ℕ) (S : ℕ → Bool) (v : ℕ → ℕ) → o < m → S o ≡ true
    → (two_least h m (minus S o) v).first ≡ cond (eqb (v o) (two_least h m S v).first) (two_least h m S v).second (two_least h m S v).first
first_without h m o S v l e =
    rw (two_again h m o S v l e) (insert_before (v o) (two_least h m (minus S o) v) (two_ordered h m (minus S o) v))

-- ---- the first of the two is the least

none_first : (h m : ℕ) (S : ℕ → Bool) (v : ℕ → ℕ) → any m S ≡ false → (two_least h m S v).first ≡ h
none_first h m S v none = ap (λ (t : Two). t.first) (two_skip h 0 m S v zero-le (λ i a l. none_of m i S none l) ∙ sym (two_none h S v))

pub first_least : (h m : ℕ) (S : ℕ → Bool) (v : ℕ → ℕ) → any m S ≡ true → ((i : ℕ) → i < m → v i ≤ h) → (two_least h m S v).first ≡ least m S v
unfolding any least two_least
first_least h zero S v some bound = absurd (true≢false (sym some))
first_least h (suc m) S v some bound =
    go (S m) (any m S) refl (λ e. first_least h m S v e (λ i l. bound i (le_step l))) some
  where
    go : (p q : Bool) → any m S ≡ q → (q ≡ true → (two_least h m S v).first ≡ least m S v) → (p || q) ≡ true
        → (cond p (insert (v m) (two_least h m S v)) (two_least h m S v)).first ≡ cond p (cond q (min (v m) (least m S v)) (v m)) (least m S v)
    go false q e ih some = ih some
    go true true e ih some = first_with (v m) (two_least h m S v) ∙ ap (min (v m)) (ih refl)
    go true false e ih some =
        first_with (v m) (two_least h m S v) ∙ ap (min (v m)) (none_first h m S v e) ∙ min-eq_left (bound m (lt-suc_self m))

-- the first of the two is h or the value of a member
pub first_attained : (h m : ℕ) (S : ℕ → Bool) (v : ℕ → ℕ)
    → ((two_least h m S v).first ≡ h) ⊎ ((a : ℕ) × (a < m) × (S a ≡ true) × ((two_least h m S v).first ≡ v a))
unfolding two_least
first_attained h zero S v = inl refl
first_attained h (suc m) S v = go (S m) refl (first_attained h m S v)
  where
    t : Two
    t = two_least h m S v

    Attained : ℕ → ℕ → Type 0
    Attained k x = (x ≡ h) ⊎ ((a : ℕ) × (a < k) × (S a ≡ true) × (x ≡ v a))

    later : (x : ℕ) → Attained m x → Attained (suc m) x
    later x (inl e) = inl e
    later x (inr r) = inr (r.0, le_step r.1, r.2, r.3)

    go : (p : Bool) → S m ≡ p → Attained m t.first → Attained (suc m) (cond p (insert (v m) t) t).first
    go false e ih = later t.first ih
    go true e ih = rw (first_with (v m) t) (at (ltb (v m) t.first) (test< (v m) t.first))
      where
        at : (c : Bool) → Lt? (v m) t.first c → Attained (suc m) (min (v m) t.first)
        at true (less l) = inr (m, lt-suc_self m, e, omega arith)
        at false (more l) = rw (min-eq_right l) (later t.first ih)
