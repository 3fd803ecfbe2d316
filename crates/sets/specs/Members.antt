-- The numbers of a set, listed.
use Rattle.std.specs.Prelude.{ℕ, ◌-◌, min, Bool, cond, List, [], ◌∷◌, ◌++◌, length, get_or, replicate, eqb}
use Rattle.model.specs.Loops.{join}
use Rattle.model.specs.Least.{any}
use Rattle.model.specs.Sets.{member}
use Rattle.sets.specs.declared.Members.{Members}

-- i where the set has it, else nothing
unfoldable pub listed_at : ℕ → ℕ → List ℕ
listed_at set i = cond (member set i) (i ∷ []) []

-- the numbers of the set below m, in rising order
unfoldable pub rising_below : ℕ → ℕ → List ℕ
rising_below m set = join m (listed_at set)

-- is i one of the numbers of a list, in whatever order
unfoldable pub listed : List ℕ → ℕ → Bool
listed list i = any (length list) (λ t. eqb (get_or list t 0) i)

-- a list in the first of 32 places, zeros in the rest, and how long it is
unfoldable pub listing : List ℕ → Members
listing numbers = record { list = numbers ++ replicate (32 - length numbers) 0; count = length numbers }

-- the numbers of the set below m and below 32
unfoldable pub members_below : ℕ → ℕ → Members
members_below m set = listing (rising_below (min m 32) set)

-- all numbers of a set of 32 bits
abbrev pub members_of : ℕ → Members
members_of set = members_below 32 set
