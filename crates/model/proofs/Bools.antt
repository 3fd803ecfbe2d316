-- Tests: two cases on a test with its equation, what && || not say, and the tests of numbers with their meaning.
use Prim.Native.Nat.{ℕ, ◌≤◌, ◌<◌}
use mathlib.Core.Path.{◌≡◌, refl, sym, ◌∙◌}
use mathlib.Core.Bool.{Bool, true, false, cond, ◌&&◌, ◌||◌, true≢false, false≢true}
use borrow.Author.Tests.{eq-eqb, eqb-true, eqb-false, ltb-true, ltb-false}
use lib.Dec.{eqb, ltb}

-- two cases on a test, each with its equation: `cases (S i) (λ e. ..) (λ e. ..)`
pub cases {ℓ} : {P : Type ℓ} (b : Bool) → (b ≡ true → P) → (b ≡ false → P) → P
cases true f g = f refl
cases false f g = g refl

-- anything, from a test that both holds and fails
pub clash {ℓ} : {P : Type ℓ} {b : Bool} → b ≡ true → b ≡ false → P
clash h k = absurd (true≢false (sym h ∙ k))

-- a test that cannot hold fails
pub fails : {b : Bool} → (b ≡ true → ⊥) → b ≡ false
fails {b} f = cases b (λ e. absurd (f e)) (λ e. e)

-- two tests that hold together are the same
pub same_test : {a b : Bool} → (a ≡ true → b ≡ true) → (b ≡ true → a ≡ true) → a ≡ b
same_test {a} {b} f g = cases a (λ e. e ∙ sym (f e)) (λ e. e ∙ sym (fails (λ k. clash (g k) e)))

pub and_left : (a b : Bool) → a && b ≡ true → a ≡ true
and_left true b h = refl
and_left false b h = h

pub and_right : (a b : Bool) → a && b ≡ true → b ≡ true
and_right true b h = h
and_right false b h = absurd (false≢true h)

pub and_both : {a b : Bool} → a ≡ true → b ≡ true → a && b ≡ true
and_both h k = rw (h, k)

pub or_left : (a b : Bool) → a ≡ true → a || b ≡ true
or_left a b h = rw h

pub or_right : (a b : Bool) → b ≡ true → a || b ≡ true
or_right true b h = refl
or_right false b h = h

pub or_cases {ℓ} : {P : Type ℓ} (a b : Bool) → a || b ≡ true → (a ≡ true → P) → (b ≡ true → P) → P
or_cases true b h f g = f refl
or_cases false b h f g = g h

pub eqb_self : (a : ℕ) → eqb a a ≡ true
eqb_self a = eq-eqb a a refl

pub eqb_swap : (a b : ℕ) → eqb a b ≡ true → eqb b a ≡ true
eqb_swap a b h = eq-eqb b a (sym (eqb-true a b h))

-- what a branch on r says of the question q, where r is the answer to it
pub said_no : {r q : Bool} → r ≡ q → r ≡ false → q ≡ false
said_no e h = sym e ∙ h

pub said_yes : {r q : Bool} → r ≡ q → r ≡ true → q ≡ true
said_yes e h = sym e ∙ h

-- The two ways that `eqb a b` comes out, each with its meaning: match on `test a b` together with the Boolean.
pub data Eq? (a b : ℕ) : Bool → Type 0 where
  same : a ≡ b → Eq? a b true
  diff : ¬ (a ≡ b) → Eq? a b false

pub test : (a b : ℕ) → Eq? a b (eqb a b)
test a b = go (eqb a b) refl
  where
    go : (c : Bool) → eqb a b ≡ c → Eq? a b c
    go true e = same (eqb-true a b e)
    go false e = diff (eqb-false a b e)

-- the same for `ltb a b`
pub data Lt? (a b : ℕ) : Bool → Type 0 where
  less : a < b → Lt? a b true
  more : b ≤ a → Lt? a b false

pub test< : (a b : ℕ) → Lt? a b (ltb a b)
test< a b = go (ltb a b) refl
  where
    go : (c : Bool) → ltb a b ≡ c → Lt? a b c
    go true e = less (ltb-true a b e)
    go false e = more (ltb-false a b e)

-- a choice between two numbers is at most what both are at most
pub cond_le : (b : Bool) {x y k : ℕ} → x ≤ k → y ≤ k → cond b x y ≤ k
cond_le true h g = h
cond_le false h g = g
