-- Sums that rise and fall by what the costs of a row are above one cost and not above another, for costs of 32 bits and sums of 64, whatever
-- they are: differences and sums wrap. Where nothing does, proofs/ExactLaws says what they come to.
use Rattle.std.specs.Prelude.{◌≡◌, ℕ, ◌+◌, ◌-◌, ◌%◌, ◌^◌, ◌<◌, Bool, cond, ◌&&◌, List, length, nat_le, nat_lt, slice_index, slice_set}
use Rattle.model.specs.Passing.{through}

-- the columns of a row
abbrev pub columns : ℕ
columns = 32

-- what a cost, and a cost of the lower half, stay below
abbrev pub cost_end : ℕ
cost_end = 2 ^ 32

abbrev pub half_end : ℕ
half_end = 2 ^ 31

-- what a number of 64 bits stays below
abbrev pub word_end : ℕ
word_end = 2 ^ 64

-- the columns from a place on end by another one
unfoldable pub fits : ℕ → ℕ → Bool
fits from end = nat_le (from + columns) end

-- ---- what a sum changes by

-- a - b in 32 bits
unfoldable pub less : ℕ → ℕ → ℕ
less a b = (a + cost_end - b) % cost_end

-- what a cost is above another one: their difference where it is in the lower half, else nothing
unfoldable pub above : ℕ → ℕ → ℕ
above cost other = cond (nat_lt (less cost other) half_end) (less cost other) 0

-- what the cost in column i of a row is above `low`
unfoldable pub above_at : List ℕ → ℕ → ℕ → ℕ
above_at costs low i = above (slice_index costs i) low

-- and not above `high`
unfoldable pub between_at : List ℕ → ℕ → ℕ → ℕ → ℕ
between_at costs low high i = less (above (slice_index costs i) low) (above (slice_index costs i) high)

-- ---- what becomes of sums

-- a table with what f makes of the number of column i in its place, where the columns lie from `at` on
unfoldable pub change_at : (ℕ → ℕ → ℕ) → ℕ → ℕ → List ℕ → List ℕ
change_at f at i table = slice_set table (at + i) (f i (slice_index table (at + i)))

-- and of the numbers of all columns
unfoldable pub changed : (ℕ → ℕ → ℕ) → ℕ → List ℕ → List ℕ
changed f at table = through columns (change_at f at) table

-- what becomes of the sum of column i, in 64 bits, where it takes on what it changes by, or gives it
unfoldable pub rise : (ℕ → ℕ) → ℕ → ℕ → ℕ
rise by i sum = (sum + by i) % word_end

unfoldable pub fall : (ℕ → ℕ) → ℕ → ℕ → ℕ
fall by i sum = (sum + word_end - by i) % word_end

abbrev pub raised : (ℕ → ℕ) → ℕ → List ℕ → List ℕ
raised by at sums = changed (rise by) at sums

abbrev pub lowered : (ℕ → ℕ) → ℕ → List ℕ → List ℕ
lowered by at sums = changed (fall by) at sums

-- ---- the calls: sums that lack room, for the row or for themselves, stay as they were

-- The sums from `at` on rise by what the costs are above `plus` and not above `minus`; where `plus` is the higher one, they fall by what the
-- costs are above `minus` and not above `plus`.
unfoldable pub shifted : List ℕ → ℕ → ℕ → List ℕ → ℕ → List ℕ
shifted costs plus minus sums at =
    cond (nat_le columns (length costs) && fits at (length sums))
    (cond (nat_le plus minus) (raised (between_at costs plus minus) at sums) (lowered (between_at costs minus plus) at sums))
    sums

-- Two stretches of sums, the first of which ends by the second: room for both, and for the row.
unfoldable pub two_fit : List ℕ → List ℕ → ℕ → ℕ → Bool
two_fit costs sums added more = nat_le columns (length costs) && (fits added more && fits more (length sums))

-- The sums from `added` on fall by what the costs are above `first`, those from `more` on rise by what they are above `first` and not above `second`.
unfoldable pub shifted_in : List ℕ → ℕ → ℕ → List ℕ → ℕ → ℕ → List ℕ
shifted_in costs first second sums added more =
    cond (two_fit costs sums added more) (raised (between_at costs first second) more (lowered (above_at costs first) added sums)) sums

-- Those from `added` on rise by as much again, those from `more` on fall.
unfoldable pub shifted_out : List ℕ → ℕ → ℕ → List ℕ → ℕ → ℕ → List ℕ
shifted_out costs first second sums added more =
    cond (two_fit costs sums added more) (lowered (between_at costs first second) more (raised (above_at costs first) added sums)) sums

-- ---- for private functions alone

-- the first so many places of a table hold what f has for them
abbrev pub FrontHolds : ℕ → (ℕ → ℕ) → List ℕ → Type 0
FrontHolds count f table = (i : ℕ) → i < count → slice_index table i ≡ f i
