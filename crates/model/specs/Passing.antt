-- What a loop makes of a value, step by step.
use Rattle.std.specs.Prelude.{ℕ, zero, suc}

-- f (n - 1) (.. (f 1 (f 0 b)))
unfoldable pub through : {A : Type 0} → ℕ → (ℕ → A → A) → A → A
through zero f b = b
through (suc n) f b = f n (through n f b)
