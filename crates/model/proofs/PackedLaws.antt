-- Laws of costs packed with their facilities: of two such numbers the lesser has no greater cost, and no two facilities have the same.
use Prim.Native.Nat.{ℕ, zero, suc, ◌/◌, ◌%◌, ◌≤◌, ◌<◌, min}
use native.Mathlib.Nat.{le_step, lt-suc_self, min-eq_right}
use native.Mathlib.Omega.{arith}
use mathlib.Core.Path.{◌≡◌, refl, sym, ap, ◌∙◌}
use mathlib.Core.Logic.{inl, inr}
use mathlib.Core.Bool.{Bool, true, false, cond, not, ◌&&◌}
use lib.Dec.{eqb}
use Rattle.model.specs.TwoLeast.{Two, two_least, packed}
use Rattle.model.specs.Sets.{minus}
use Rattle.model.proofs.Bools.{cases, eqb_self, Eq?, same, diff, test}
use Rattle.model.proofs.TwoLeastLaws.{first_with, two_none, two_ordered, two_below, two_without, first_without, first_attained}

pub packed_divides : (c : ℕ → ℕ) (i : ℕ) → i < 32 → packed c i / 32 ≡ c i
unfolding packed
packed_divides c i l = omega arith

pub packed_facility : (c : ℕ → ℕ) (i : ℕ) → i < 32 → packed c i % 32 ≡ i
unfolding packed
packed_facility c i l = omega arith

-- what is the packed number of o names o
names : (c : ℕ → ℕ) (o x : ℕ) → o < 32 → packed c o ≡ x → x % 32 ≡ o
names c o x l e = ap (λ (y : ℕ). y % 32) (sym e) ∙ packed_facility c o l

module _ (h m o : ℕ) (S : ℕ → Bool) (c : ℕ → ℕ) (few : m ≤ 32) (below : o < m) (is_in_lem : S o ≡ true) where
  -- where neither of the two names o, o goes out without a trace
  pub packed_without : ¬ ((two_least h m S (packed c)).first % 32 ≡ o) → ¬ ((two_least h m S (packed c)).second % 32 ≡ o)
      → two_least h m (minus S o) (packed c) ≡ two_least h m S (packed c)
  packed_without n k =
      two_without h m o S (packed c) below is_in_lem (λ e. n (names c o _ (omega arith) e)) (λ e. k (names c o _ (omega arith) e))

  -- where the first names o, the second is the first that is left
  pub packed_first_without : (two_least h m (minus S o) (packed c)).first
      ≡ cond (eqb ((two_least h m S (packed c)).first % 32) o) (two_least h m S (packed c)).second (two_least h m S (packed c)).first
  packed_first_without =
      first_without h m o S (packed c) below is_in_lem ∙ go (eqb (packed c o) x) (test (packed c o) x) (eqb (x % 32) o) (test (x % 32) o)
    where
      x : ℕ
      x = (two_least h m S (packed c)).first

      y : ℕ
      y = (two_least h m S (packed c)).second

      -- the first names o and is not its packed number: then it stands for a missing one, and so does the second
      missing : ¬ (packed c o ≡ x) → x % 32 ≡ o → y ≡ x
      missing d e =
          elim (first_attained h m S (packed c)) [
            | inl none ↦ omega (arith, two_ordered h m S (packed c), two_below h m S (packed c))
            | inr r ↦ absurd (d (ap (packed c) (sym e ∙ names c r.0 x (omega (arith, r.1)) (sym r.3)) ∙ sym r.3))
          ]

      go : (p : Bool) → Eq? (packed c o) x p → (q : Bool) → Eq? (x % 32) o q → cond p y x ≡ cond q y x
      go true (same e) true (same k) = refl
      go true (same e) false (diff k) = absurd (k (names c o x (omega arith) e))
      go false (diff d) true (same k) = sym (missing d k)
      go false (diff d) false (diff k) = refl

-- ---- the second, found from the first

first_more : (h m : ℕ) (S : ℕ → Bool) (v : ℕ → ℕ)
    → (two_least h (suc m) S v).first ≡ cond (S m) (min (v m) (two_least h m S v).first) (two_least h m S v).first
unfolding two_least
first_more h m S v = cases (S m) (λ e. rw e (first_with (v m) (two_least h m S v))) (λ e. rw e)

-- two sets and their values have the same least, where each number makes the same of every least so far
first_same : (h m : ℕ) (S T : ℕ → Bool) (v w : ℕ → ℕ)
    → ((i : ℕ) → i < m → (b : ℕ) → b ≤ h → cond (S i) (min (v i) b) b ≡ cond (T i) (min (w i) b) b)
    → (two_least h m S v).first ≡ (two_least h m T w).first
first_same h zero S T v w agree = ap (λ (t : Two). t.first) (sym (two_none h S v) ∙ two_none h T w)
first_same h (suc m) S T v w agree =
    let b = (two_least h m T w).first in
    let within : b ≤ h = omega (arith, two_ordered h m T w, two_below h m T w) in
    let ih = first_same h m S T v w (λ i l. agree i (le_step l)) in
    first_more h m S v ∙ rw ih (agree m (lt-suc_self m) b within) ∙ sym (first_more h m T w)

-- y, with h in place of x
abbrev pub other_than : ℕ → ℕ → ℕ → ℕ
other_than h x y = cond (eqb y x) h y

-- the second is the least packed number other than the first
pub packed_second : (h m : ℕ) (S : ℕ → Bool) (c : ℕ → ℕ) → m ≤ 32
    → (two_least h m S (λ i. other_than h (two_least h m S (packed c)).first (packed c i))).first ≡ (two_least h m S (packed c)).second
packed_second h m S c few =
    elim (first_attained h m S (packed c)) [
      | inl none ↦
          first_same h m S S w v (λ i l b k. ap (λ (y : ℕ). cond (S i) (min y b) b) (missing none i (eqb (v i) x) (test (v i) x)))
          ∙ omega (arith, none, two_ordered h m S v, two_below h m S v)
      | inr r ↦
          first_same h m S (minus S r.0) w v
          (λ i l b k. other r.0 i (omega (arith, r.1)) (omega arith) r.3 b k (eqb (v i) x) (test (v i) x) (eqb r.0 i) (test r.0 i) (S i))
          ∙ first_without h m r.0 S v r.1 r.2
          ∙ rw (← r.3, eqb_self x)
    ]
  where
    v : ℕ → ℕ
    v = packed c

    x : ℕ
    x = (two_least h m S v).first

    w : ℕ → ℕ
    w i = other_than h x (v i)

    missing : x ≡ h → (i : ℕ) (p : Bool) → Eq? (v i) x p → cond p h (v i) ≡ v i
    missing none i true (same e) = sym (e ∙ none)
    missing none i false (diff d) = refl

    -- a alone has the first for its packed number
    other : (a i : ℕ) → a < 32 → i < 32 → x ≡ v a → (b : ℕ) → b ≤ h → (p : Bool) → Eq? (v i) x p → (q : Bool) → Eq? a i q → (s : Bool)
        → cond s (min (cond p h (v i)) b) b ≡ cond (not q && s) (min (v i) b) b
    other a i la li e b k true (same f) true (same g) true = min-eq_right k
    other a i la li e b k true (same f) true (same g) false = refl
    other a i la li e b k true (same f) false (diff g) s = absurd (g (sym (names c a x la (sym e)) ∙ names c i x li f))
    other a i la li e b k false (diff f) true (same g) s = absurd (f (ap v (sym g) ∙ sym e))
    other a i la li e b k false (diff f) false (diff g) s = refl
