-- Sets of numbers: as tests, and as one number whose bit i marks i (document 01, question 8).
use Rattle.std.specs.Prelude.{ℕ, ◌+◌, ◌-◌, ◌/◌, ◌%◌, ◌^◌, cond, Bool, not, ◌&&◌, ◌||◌, eqb}
use Rattle.model.specs.Loops.{on, sum}

-- the sum of w over the members of S below m
abbrev pub sum_on : ℕ → (ℕ → Bool) → (ℕ → ℕ) → ℕ
sum_on m S w = sum m (λ i. on (S i) (w i))

-- how many numbers below m are in S
abbrev pub count : ℕ → (ℕ → Bool) → ℕ
count m S = sum_on m S (λ i. 1)

-- S with o; S without f; S with o in the place of f
abbrev pub plus : (ℕ → Bool) → ℕ → ℕ → Bool
plus S o i = eqb o i || S i

abbrev pub minus : (ℕ → Bool) → ℕ → ℕ → Bool
minus S f i = not (eqb f i) && S i

abbrev pub trade : (ℕ → Bool) → ℕ → ℕ → ℕ → Bool
trade S f o = plus (minus S f) o

-- bit i of a set that is a number: `member set` is the set as a test
unfoldable pub member : ℕ → ℕ → Bool
member set i = eqb (set / 2 ^ i % 2) 1

-- the set with bit i, and without it
unfoldable pub with : ℕ → ℕ → ℕ
with set i = cond (member set i) set (set + 2 ^ i)

unfoldable pub without : ℕ → ℕ → ℕ
without set i = cond (member set i) (set - 2 ^ i) set
