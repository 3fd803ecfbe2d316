-- Laws of what loops compute: before the first turn, what a turn adds, and what a loop that leaves early has found.
-- Loops count by i + 1, so the laws for turns do too.
use Prim.Native.Nat.{ℕ, zero, suc, ◌+◌, ◌*◌, ◌≤◌, ◌<◌}
use native.Mathlib.Nat.{add-zero, add-suc, le_refl, le_trans, le_step, lt-suc_self, not-suc-le-zero, eq-or-lt_of_le, le_of_suc-le-suc}
use native.Mathlib.Numerals.{add-one}
use native.Mathlib.Omega.{arith}
use native.Mathlib.Decide.{dec_lt}
use mathlib.Core.Path.{◌≡◌, refl, sym, ap, ap₂, subst, ◌∙◌}
use mathlib.Core.Logic.{◌⊎◌, inl, inr}
use mathlib.Core.Bool.{Bool, true, false, cond, ◌&&◌, and-false, and-true, and_assoc, true≢false}
use mathlib.Core.List.{List, [], ◌++◌, append_assoc, append-nil}
use lib.ListN.{length, get_or, length-append}
use borrow.Author.Tests.{eq-eqb, ne_eqb, eqb-true}
use lib.Dec.{eqb}
use Rattle.model.specs.Loops.{all_below, leading, join}
use Rattle.model.proofs.Bools.{cases, clash, cond_le}

-- a number below m + 1 is m or below m
pub last_or : {i m : ℕ} → i < suc m → (i ≡ m) ⊎ (i < m)
last_or h = eq-or-lt_of_le (le_of_suc-le-suc h)

-- what holds below i and of i holds below i + 1
pub up_to : (Q : ℕ → Type 0) (i : ℕ) → ((k : ℕ) → k < i → Q k) → Q i → (k : ℕ) → k < suc i → Q k
up_to Q i h q k l = elim (eq-or-lt_of_le l) [ inl e ↦ subst Q (omega arith) q | inr s ↦ h k (omega arith) ]

-- ---- all below

pub all_none : (p : ℕ → Bool) → true ≡ all_below 0 p
unfolding all_below
all_none p = refl

pub all_more : (p : ℕ → Bool) (i : ℕ) → true ≡ all_below i p → p i ≡ true → true ≡ all_below (i + 1) p
unfolding all_below
all_more p i h e = rw (add-one, ← h, e)

pub all_stops : (p : ℕ → Bool) (n i : ℕ) → i < n → p i ≡ false → all_below n p ≡ false
unfolding all_below
all_stops p zero i h e = absurd (not-suc-le-zero h)
all_stops p (suc n) i h e =
    elim (dec_lt i n) [
      | yes l ↦ ap (λ (b : Bool). b && p n) (all_stops p n i l e)
      | no g ↦ ap (λ (k : ℕ). all_below n p && p k) (omega arith) ∙ ap (λ (b : Bool). all_below n p && b) e ∙ and-false (all_below n p)
    ]

-- the readable form: p holds of each index
pub all_at : (p : ℕ → Bool) (n i : ℕ) → all_below n p ≡ true → i < n → p i ≡ true
all_at p n i h l = cases (p i) (λ e. e) (λ e. clash h (all_stops p n i l e))

-- a test of a whole table gives its rule at each entry
pub table_rule : (table : List ℕ) (rule : ℕ → ℕ) (n : ℕ) → all_below n (λ i. eqb (get_or table i 0) (rule i)) ≡ true
    → (i : ℕ) → i < n → get_or table i 0 ≡ rule i
table_rule table rule n h i l = eqb-true (get_or table i 0) (rule i) (all_at (λ k. eqb (get_or table k 0) (rule k)) n i h l)

pub all_from : (p : ℕ → Bool) (n : ℕ) → ((i : ℕ) → i < n → p i ≡ true) → all_below n p ≡ true
unfolding all_below
all_from p zero h = refl
all_from p (suc n) h = rw (all_from p n (λ i l. h i (le_step l)), h n (lt-suc_self n))

-- where not all pass, some index fails
pub all_fails : (p : ℕ → Bool) (n : ℕ) → all_below n p ≡ false → (i : ℕ) × (i < n) × (p i ≡ false)
unfolding all_below
all_fails p zero h = absurd (true≢false h)
all_fails p (suc n) h =
    cases (all_below n p)
    (λ e. (n, lt-suc_self n, rw e at h))
    (λ e. let r = all_fails p n e in (r.0, le_step r.1, r.2))

-- tests that agree
pub all_cong : (n : ℕ) (p q : ℕ → Bool) → ((i : ℕ) → i < n → p i ≡ q i) → all_below n p ≡ all_below n q
unfolding all_below
all_cong zero p q h = refl
all_cong (suc n) p q h = ap₂ ◌&&◌ (all_cong n p q (λ i l. h i (le_step l))) (h n (lt-suc_self n))

-- n indices, and k behind them
pub all_plus : (n k : ℕ) (p : ℕ → Bool) → all_below (n + k) p ≡ all_below n p && all_below k (λ j. p (n + j))
unfolding all_below
all_plus n zero p = rw add-zero (sym (and-true (all_below n p)))
all_plus n (suc k) p = rw add-suc (ap (λ (b : Bool). b && p (n + k)) (all_plus n k p) ∙ and_assoc (all_below n p) (all_below k (λ j. p (n + j))) (p (n + k)))

-- ---- the leading run

pub leading_none : (p : ℕ → Bool) → leading 0 p ≡ 0
unfolding leading
leading_none p = refl

pub leading_more : (p : ℕ → Bool) (i : ℕ) → leading i p ≡ i → p i ≡ true → leading (i + 1) p ≡ i + 1
unfolding leading
leading_more p i h e = rw add-one (ap (λ (b : Bool). cond b (cond (p i) (suc i) i) (leading i p)) (eq-eqb _ _ h) ∙ ap (λ (b : Bool). cond b (suc i) i) e)

pub leading_stops : (p : ℕ → Bool) (n i : ℕ) → leading i p ≡ i → i < n → p i ≡ false → leading n p ≡ i
unfolding leading
leading_stops p zero i h l e = absurd (not-suc-le-zero l)
leading_stops p (suc n) i h l e =
    elim (dec_lt i n) [
      | yes b ↦
          let before : leading n p ≡ i = leading_stops p n i h b e in
          ap (λ (t : Bool). cond t (cond (p n) (suc n) n) (leading n p)) (ne_eqb (leading n p) n (λ q. omega arith)) ∙ before
      | no g ↦
          let same : i ≡ n = omega arith in
          subst (λ (k : ℕ). cond (eqb (leading k p) k) (cond (p k) (suc k) k) (leading k p) ≡ i) same
          (ap (λ (t : Bool). cond t (cond (p i) (suc i) i) (leading i p)) (eq-eqb _ _ h) ∙ ap (λ (t : Bool). cond t (suc i) i) e)
    ]

pub leading_le : (p : ℕ → Bool) (n : ℕ) → leading n p ≤ n
unfolding leading
leading_le p zero = omega arith
leading_le p (suc n) =
    cond_le (eqb (leading n p) n) (cond_le (p n) (omega arith) (omega arith)) (omega (arith, leading_le p n))

-- a run as long as k is not cut short where more is looked at
leading_grows : (p : ℕ → Bool) (n : ℕ) → leading n p ≤ leading (suc n) p
unfolding leading
leading_grows p n =
    cases (eqb (leading n p) n)
    (λ e. rw e (cases (p n) (λ h. rw h (omega (arith, leading_le p n))) (λ h. rw h (leading_le p n))))
    (λ e. rw e (le_refl (leading n p)))

pub leading_reaches : (p : ℕ → Bool) (n k : ℕ) → leading k p ≡ k → k ≤ n → k ≤ leading n p
leading_reaches p zero k h l = omega arith
leading_reaches p (suc n) k h l =
    elim (dec_lt n k) [
      | yes b ↦ let same : k ≡ suc n = omega arith in subst (λ (j : ℕ). k ≤ leading j p) same (omega (arith, h))
      | no g ↦ le_trans (leading_reaches p n k h (omega arith)) (leading_grows p n)
    ]

-- p holds of each index of the run
pub leading_holds : (p : ℕ → Bool) (n i : ℕ) → i < leading n p → p i ≡ true
unfolding leading
leading_holds p zero i l = absurd (not-suc-le-zero l)
leading_holds p (suc n) i l = go (eqb (leading n p) n) (p n) (eqb-true (leading n p) n) refl (leading_holds p n i) l
  where
    go : (whole here : Bool) → (whole ≡ true → leading n p ≡ n) → p n ≡ here → (i < leading n p → p i ≡ true)
        → i < cond whole (cond here (suc n) n) (leading n p) → p i ≡ true
    go true true w e ih k = elim (last_or k) [ inl last ↦ rw last e | inr early ↦ let r = w refl in ih (omega arith) ]
    go true false w e ih k = let r = w refl in ih (omega arith)
    go false here w e ih k = ih k

pub leading_cong : (n : ℕ) (p q : ℕ → Bool) → ((i : ℕ) → i < n → p i ≡ q i) → leading n p ≡ leading n q
unfolding leading
leading_cong zero p q h = refl
leading_cong (suc n) p q h = rw (leading_cong n p q (λ i l. h i (le_step l)), h n (lt-suc_self n))

-- ---- join

pub join_none : (f : ℕ → List ℕ) → join 0 f ≡ []
unfolding join
join_none f = refl

pub join_more : (f : ℕ → List ℕ) (i : ℕ) → join (i + 1) f ≡ join i f ++ f i
unfolding join
join_more f i = rw add-one

pub join_cong : (n : ℕ) (f g : ℕ → List ℕ) → ((i : ℕ) → i < n → f i ≡ g i) → join n f ≡ join n g
unfolding join
join_cong zero f g h = refl
join_cong (suc n) f g h = ap₂ ◌++◌ (join_cong n f g (λ i l. h i (le_step l))) (h n (lt-suc_self n))

pub join_plus : (n k : ℕ) (f : ℕ → List ℕ) → join (n + k) f ≡ join n f ++ join k (λ j. f (n + j))
unfolding join
join_plus n zero f = rw add-zero (sym (append-nil (join n f)))
join_plus n (suc k) f = rw add-suc (ap (λ (l : List ℕ). l ++ f (n + k)) (join_plus n k f) ∙ append_assoc (join n f) (join k (λ j. f (n + j))) (f (n + k)))

-- parts of a length each
pub length_join : (n size : ℕ) (f : ℕ → List ℕ) → ((i : ℕ) → i < n → length (f i) ≡ size) → length (join n f) ≡ n * size
unfolding join
length_join zero size f h = omega arith
length_join (suc n) size f h =
    length-append (join n f) (f n) ∙ ap₂ ◌+◌ (length_join n size f (λ i l. h i (le_step l))) (h n (lt-suc_self n)) ∙ omega arith
