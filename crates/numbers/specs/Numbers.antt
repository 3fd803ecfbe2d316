-- The answers of the exported calls as numbers of 64 bits, and how a caller reads them again. A part is cut to its bits, which the answer of a call keeps to.
use Rattle.std.specs.Prelude.{ℕ, ◌+◌, ◌*◌, ◌/◌, ◌%◌, ◌^◌, ◌≤◌, ◌<◌, ◌≡◌, Bool, true, false, cond, List, eqb, ℤ, pos, negsuc, neg_ℤ, nat_abs, ◌-ℤ◌, Option, Some, None, Result, Ok, Err}
use Rattle.model.specs.Loops.{on}
use Rattle.model.specs.Least.{any}
use Rattle.model.specs.Sets.{member, without}
use Rattle.model.specs.Instance.{total_cost}
use Rattle.model.specs.Answers.{Answer, accepted, refused}
use Rattle.questions.specs.Sheet.{yards, instance_of}
use Rattle.questions.specs.declared.Counts.{Counts}
use Rattle.nearest.specs.declared.Nearest as declared
use Rattle.nearest.specs.Nearest.{Nearest, near}
use Rattle.numbers.specs.declared.SecondYard.{SecondYard}
use Rattle.plan_area.specs.Plan.{plan_set}
use Rattle.price.specs.declared.Written.{Written}

-- Reading: from bit 8 the yards, from bit 16 the farms. A refused call gives its number alone.
abbrev pub counts_number : Answer Counts → ℕ
counts_number (accepted c) = c.yards % 2 ^ 8 * 2 ^ 8 + c.farms % 2 ^ 8 * 2 ^ 16
counts_number (refused k) = k

-- Pricing and the plans: from bit 8 the bytes written, from bit 32 the moves. A refused call gives its number alone.
abbrev pub result_number : Answer Written → ℕ
result_number (accepted r) = r.bytes % 2 ^ 24 * 2 ^ 8 + r.moves * 2 ^ 32
result_number (refused k) = k

-- the parts of a second yard's number: whether there is one, that yard and the haul there, both 0 where there is none
abbrev pub parts_of : Option declared.Nearest → SecondYard
parts_of (Some second) = record { found = true; yard = second.yard; haul = second.haul }
parts_of None = record { found = false; yard = 0; haul = 0 }

-- document 01's answer for these parts, where each error has a number
abbrev pub second_by : {E : Type 0} → (E → ℕ) → Result SecondYard E → Answer Nearest
second_by number (Ok parts) = accepted (near parts.found parts.yard parts.haul)
second_by number (Err e) = refused (number e)

-- A farm's second yard: bit 8 whether there is one, from bit 16 that yard, from bit 32 the haul there.
abbrev pub second_number : Answer Nearest → ℕ
second_number (accepted r) = on r.found (2 ^ 8) + r.yard % 2 ^ 8 * 2 ^ 16 + r.haul * 2 ^ 32
second_number (refused k) = k

-- What shutting a yard changes: bit 8 whether it is below zero, from bit 16 its size.
abbrev pub below_zero : ℤ → Bool
below_zero (pos n) = false
below_zero (negsuc n) = true

abbrev pub change_number : Answer ℤ → ℕ
change_number (accepted change) = on (below_zero change) (2 ^ 8) + nat_abs change % 2 ^ 48 * 2 ^ 16
change_number (refused k) = k

-- A floor: from bit 8 the sum.
abbrev pub sum_number : Answer ℕ → ℕ
sum_number (accepted sum) = sum % 2 ^ 56 * 2 ^ 8
sum_number (refused k) = k

-- ---- what a caller reads off a number

-- bits 0 to 7: the refusal number, 0 where the call is accepted
unfoldable pub refusal : ℕ → ℕ
refusal r = r % 2 ^ 8

-- bits 8 to 15 and 16 to 23 of what reading gives
unfoldable pub yards_read : ℕ → ℕ
yards_read r = r / 2 ^ 8 % 2 ^ 8

unfoldable pub farms_read : ℕ → ℕ
farms_read r = r / 2 ^ 16 % 2 ^ 8

-- bits 8 to 31 and 32 to 63 of what pricing and the plans give
unfoldable pub bytes_written : ℕ → ℕ
bytes_written r = r / 2 ^ 8 % 2 ^ 24

unfoldable pub moves_made : ℕ → ℕ
moves_made r = r / 2 ^ 32 % 2 ^ 32

-- bit 8, bits 16 to 23 and bits 32 to 63 of what the call for a second yard gives
unfoldable pub second_found : ℕ → Bool
second_found r = eqb (r / 2 ^ 8 % 2) 1

unfoldable pub yard_told : ℕ → ℕ
yard_told r = r / 2 ^ 16 % 2 ^ 8

unfoldable pub haul_told : ℕ → ℕ
haul_told r = r / 2 ^ 32 % 2 ^ 32

-- the change: bits 16 to 63, below zero where bit 8 says so
unfoldable pub change_told : ℕ → ℤ
change_told r = cond (eqb (r / 2 ^ 8 % 2) 1) (neg_ℤ (pos (r / 2 ^ 16 % 2 ^ 48))) (pos (r / 2 ^ 16 % 2 ^ 48))

-- bits 8 to 63 of what the call for a floor gives
unfoldable pub sum_told : ℕ → ℕ
sum_told r = r / 2 ^ 8 % 2 ^ 56

-- what holds of the set in the area, where the number says that the call was accepted and how many bytes it wrote
abbrev pub OfWritten : ℕ → List ℕ → (ℕ → Type 0) → Type 0
OfWritten r area P = refusal r ≡ 0 → P (plan_set area (bytes_written r))

-- "It equals the full price of the set without the yard less that of the set", of the change that the number of an accepted call tells
abbrev pub DifferenceTold : List ℕ → ℕ → ℕ → ℕ → Type 0
DifferenceTold s set yard r =
    refusal r ≡ 0 → change_told r ≡ pos (total_cost (instance_of s) (member (without set yard))) -ℤ pos (total_cost (instance_of s) (member set))

-- "which is no more than the full cost of any non-empty set", of the sum that the number of an accepted call tells
abbrev pub UnderAllTold : List ℕ → ℕ → Type 0
UnderAllTold s r =
    refusal r ≡ 0 → (rival : ℕ → Bool) → any (yards s) rival ≡ true → sum_told r ≤ total_cost (instance_of s) rival

-- ---- what an answer has to be so that a caller reads it off its number again: each part keeps to its bits, and so does a refusal number, which is not 0

abbrev pub KeepsBits : Answer Written → Type 0
KeepsBits (accepted r) = (r.bytes < 2 ^ 24) × (r.moves < 2 ^ 32)
KeepsBits (refused k) = (1 ≤ k) × (k < 2 ^ 8)

abbrev pub CountsKeepBits : Answer Counts → Type 0
CountsKeepBits (accepted c) = (c.yards < 2 ^ 8) × (c.farms < 2 ^ 8)
CountsKeepBits (refused k) = (1 ≤ k) × (k < 2 ^ 8)

abbrev pub SecondKeepsBits : Answer Nearest → Type 0
SecondKeepsBits (accepted r) = (r.yard < 2 ^ 8) × (r.haul < 2 ^ 32)
SecondKeepsBits (refused k) = (1 ≤ k) × (k < 2 ^ 8)

abbrev pub ChangeKeepsBits : Answer ℤ → Type 0
ChangeKeepsBits (accepted change) = nat_abs change < 2 ^ 48
ChangeKeepsBits (refused k) = (1 ≤ k) × (k < 2 ^ 8)

abbrev pub SumKeepsBits : Answer ℕ → Type 0
SumKeepsBits (accepted sum) = sum < 2 ^ 56
SumKeepsBits (refused k) = (1 ≤ k) × (k < 2 ^ 8)
