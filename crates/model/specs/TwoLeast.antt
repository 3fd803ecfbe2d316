-- The two least values over the members of a set.
use Rattle.std.specs.Prelude.{ℕ, zero, suc, ◌+◌, ◌*◌, cond, Bool, ltb}

pub record Two : Type 0 where
  pub first : ℕ
  pub second : ℕ

abbrev pub two : ℕ → ℕ → Two
two first second = record { first = first; second = second }

-- the two least of x and of two
unfoldable pub insert : ℕ → Two → Two
insert x t = cond (ltb x t.first) (two x t.first) (cond (ltb x t.second) (two t.first x) t)

-- the two least v i over the i below m in S; h stands for each that is missing
unfoldable pub two_least : ℕ → ℕ → (ℕ → Bool) → (ℕ → ℕ) → Two
two_least h zero S v = two h h
two_least h (suc m) S v = cond (S m) (insert (v m) (two_least h m S v)) (two_least h m S v)

-- a cost and its facility, one of at most 32, in one number: of two such numbers the lesser has no greater cost
unfoldable pub packed : (ℕ → ℕ) → ℕ → ℕ
packed c i = 32 * c i + i
