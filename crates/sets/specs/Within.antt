-- A set of 32 bits takes no number from 32 on.
use Rattle.std.specs.Prelude.{ℕ, cond, ltb}
use Rattle.model.specs.Sets.{with}

-- the set with i, or as it was where i is 32 or above
unfoldable pub with32 : ℕ → ℕ → ℕ
with32 set i = cond (ltb i 32) (with set i) set
