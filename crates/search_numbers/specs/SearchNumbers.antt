-- The answers of calls that search as numbers of 64 bits, and how a caller reads them again. A part is cut to its bits, which the answer of a call keeps to.
use Rattle.std.specs.Prelude.{ℕ, ◌+◌, ◌*◌, ◌/◌, ◌%◌, ◌^◌, ◌≤◌, ◌<◌, ◌≡◌, Bool, true, false, List, eqb}
use Rattle.model.specs.Answers.{Answer, accepted, refused}
use Rattle.plan_area.specs.Plan.{plan_set}
use Rattle.plan_search.specs.Planning.{Told}
use Rattle.numbers.specs.Numbers.{refusal}

-- bit 31
abbrev pub stopped_bit : Bool → ℕ
stopped_bit true = 2 ^ 31
stopped_bit false = 0

-- from bit 8 the bytes written, bit 31 whether the search was stopped, from bit 32 the moves. A refused call gives its number alone.
abbrev pub searched_number : Answer Told → ℕ
searched_number (accepted t) = t.bytes % 2 ^ 23 * 2 ^ 8 + stopped_bit t.stopped + t.moves * 2 ^ 32
searched_number (refused k) = k

-- ---- what a caller reads off the number; bits 0 to 7 and 32 to 63 as for every plan

-- bits 8 to 30: the bytes written
unfoldable pub bytes_told : ℕ → ℕ
bytes_told r = r / 2 ^ 8 % 2 ^ 23

-- bit 31
unfoldable pub was_stopped : ℕ → Bool
was_stopped r = eqb (r / 2 ^ 31 % 2) 1

-- what holds of the set in the area, where the number says that the search settled, and where it was stopped
abbrev pub WhereSettled : ℕ → List ℕ → (ℕ → Type 0) → Type 0
WhereSettled r area P = refusal r ≡ 0 → was_stopped r ≡ false → P (plan_set area (bytes_told r))

abbrev pub WhereStopped : ℕ → List ℕ → (ℕ → Type 0) → Type 0
WhereStopped r area P = refusal r ≡ 0 → was_stopped r ≡ true → P (plan_set area (bytes_told r))

-- and in either case
abbrev pub WhereSearched : ℕ → List ℕ → (ℕ → Type 0) → Type 0
WhereSearched r area P = WhereSettled r area P × WhereStopped r area P

-- each part keeps to its bits, and so does a refusal number, which is not 0
abbrev pub SearchKeepsBits : Answer Told → Type 0
SearchKeepsBits (accepted t) = (t.bytes < 2 ^ 23) × (t.moves < 2 ^ 32)
SearchKeepsBits (refused k) = (1 ≤ k) × (k < 2 ^ 8)
