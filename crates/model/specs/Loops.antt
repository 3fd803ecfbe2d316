-- What loops compute: a test of every index, the leading run, a sum, a join of lists.
use Rattle.std.specs.Prelude.{ℕ, zero, suc, ◌+◌, ◌^◌, cond, Bool, true, false, ◌&&◌, List, [], ◌++◌, eqb}

-- x where the test holds, 0 where it does not
abbrev pub on : Bool → ℕ → ℕ
on true x = x
on false x = 0

-- does p hold of every index below n
unfoldable pub all_below : ℕ → (ℕ → Bool) → Bool
all_below zero p = true
all_below (suc n) p = all_below n p && p n

-- how many of the indices below n come before the first of which p does not hold
unfoldable pub leading : ℕ → (ℕ → Bool) → ℕ
leading zero p = 0
leading (suc n) p = cond (eqb (leading n p) n) (cond (p n) (suc n) n) (leading n p)

-- f 0 + f 1 + .. + f (n - 1)
unfoldable pub sum : ℕ → (ℕ → ℕ) → ℕ
sum zero f = 0
sum (suc n) f = sum n f + f n

-- what a term is at most where a loop adds up few of them in a number of 64 bits: four bytes times one
abbrev pub most_term : ℕ
most_term = 2 ^ 40

-- f 0 ++ f 1 ++ .. ++ f (n - 1)
unfoldable pub join : ℕ → (ℕ → List ℕ) → List ℕ
join zero f = []
join (suc n) f = join n f ++ f n
