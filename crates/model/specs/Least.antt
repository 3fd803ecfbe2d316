-- The least value over the members of a set, and the member that attains it.
use Rattle.std.specs.Prelude.{ℕ, zero, suc, min, cond, Bool, false, not, ◌&&◌, ◌||◌, ltb}

-- is some number below m in S
unfoldable pub any : ℕ → (ℕ → Bool) → Bool
any zero S = false
any (suc m) S = S m || any m S

-- the least v i over the i below m in S; 0 where there is none
unfoldable pub least : ℕ → (ℕ → Bool) → (ℕ → ℕ) → ℕ
least zero S v = 0
least (suc m) S v = cond (S m) (cond (any m S) (min (v m) (least m S v)) (v m)) (least m S v)

-- the i below m in S of least v i, the lowest number among equals; 0 where there is none
unfoldable pub arg : ℕ → (ℕ → Bool) → (ℕ → ℕ) → ℕ
arg zero S v = 0
arg (suc m) S v = cond (S m && (not (any m S) || ltb (v m) (v (arg m S v)))) m (arg m S v)
