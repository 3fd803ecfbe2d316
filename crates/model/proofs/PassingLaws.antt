-- Laws of `through`: before the first turn, what a turn adds, and steps that agree or change nothing.
use Prim.Native.Nat.{ℕ, zero, suc, ◌+◌, ◌<◌}
use native.Mathlib.Nat.{le_step, lt-suc_self}
use native.Mathlib.Numerals.{add-one}
use mathlib.Core.Path.{◌≡◌, refl, ap, ◌∙◌}
use Rattle.model.specs.Passing.{through}

pub through_none : {A : Type 0} (f : ℕ → A → A) (b : A) → b ≡ through 0 f b
unfolding through
through_none f b = refl

pub through_more : {A : Type 0} (f : ℕ → A → A) (b : A) (i : ℕ) → through (i + 1) f b ≡ f i (through i f b)
unfolding through
through_more f b i = rw add-one

-- steps that agree make the same of a value
pub through_cong : {A : Type 0} (f g : ℕ → A → A) (b : A) (n : ℕ) → ((i : ℕ) → i < n → (x : A) → f i x ≡ g i x)
    → through n f b ≡ through n g b
unfolding through
through_cong f g b zero h = refl
through_cong f g b (suc n) h =
    ap (f n) (through_cong f g b n (λ i l. h i (le_step l))) ∙ h n (lt-suc_self n) (through n g b)

-- steps that leave a value as it is
pub through_keeps : {A : Type 0} (f : ℕ → A → A) (b : A) (n : ℕ) → ((i : ℕ) → i < n → f i b ≡ b) → through n f b ≡ b
unfolding through
through_keeps f b zero h = refl
through_keeps f b (suc n) h = ap (f n) (through_keeps f b n (λ i l. h i (le_step l))) ∙ h n (lt-suc_self n)

-- what every step brings from a value on to the next holds at the end
pub through_holds : {A : Type 0} (P : A → Type 0) (f : ℕ → A → A) (b : A) (n : ℕ)
    → ((i : ℕ) → i < n → (x : A) → P x → P (f i x)) → P b → P (through n f b)
unfolding through
through_holds P f b zero h p = p
through_holds P f b (suc n) h p = h n (lt-suc_self n) (through n f b) (through_holds P f b n (λ i l. h i (le_step l)) p)
