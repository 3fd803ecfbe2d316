-- Laws of answers: what an accepted chain of questions says of each of them.
use Prim.Native.Nat.{ℕ}
use native.Mathlib.Omega.{arith}
use mathlib.Core.Path.{◌≡◌, refl, sym}
use mathlib.Core.Bool.{Bool, true, false}
use Rattle.model.specs.Answers.{Answer, accepted, refused, ask, after}

pub same_result : {A : Type 0} {x y : A} → accepted x ≡ accepted y → x ≡ y
same_result h = cc

-- no answer is both
pub not_both : {A : Type 0} {x : A} {k : ℕ} → accepted x ≡ refused k → ⊥
not_both h = let z : ◌≡◌ {A = ℕ} 0 1 = cc in omega arith

-- a chain of questions that ends accepted had each answered yes
pub asked : {A : Type 0} (b : Bool) (k : ℕ) (rest : Answer A) (x : A) → ask b k rest ≡ accepted x → (b ≡ true) × (rest ≡ accepted x)
asked true k rest x h = (refl, h)
asked false k rest x h = absurd (not_both (sym h))

pub passed_first : {A B : Type 0} (r : Answer A) (f : A → Answer B) (x : B) → after r f ≡ accepted x → (c : A) × (r ≡ accepted c) × (f c ≡ accepted x)
passed_first (accepted c) f x h = (c, refl, h)
passed_first (refused k) f x h = absurd (not_both (sym h))
