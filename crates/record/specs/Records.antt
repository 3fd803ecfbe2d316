-- The record (document 01, "The haul sheet"): byte 0 the kind, byte 1 a yard number, byte 2 a farm number, byte 3 zero or a farm's loads,
-- bytes 4 to 7 an amount, lowest byte first.
use Rattle.std.specs.Prelude.{ℕ, ◌+◌, ◌*◌, ◌/◌, ◌%◌, ◌^◌, cond, List, [], ◌∷◌, ◌++◌, length, get_or, take, drop, leb}
use Rattle.record.specs.declared.Record.{Record}

-- four bytes, lowest first
abbrev pub word : ℕ → ℕ → ℕ → ℕ → ℕ
word a b c d = a + 256 * b + 65536 * c + 16777216 * d

-- what a number of four bytes, as an amount is, stays below
abbrev pub amount_end : ℕ
amount_end = 2 ^ 32

-- a number in four bytes, lowest first
unfoldable pub word_bytes : ℕ → List ℕ
word_bytes n = n % 256 ∷ n / 256 % 256 ∷ n / 65536 % 256 ∷ n / 16777216 % 256 ∷ []

abbrev pub record_of : ℕ → ℕ → ℕ → ℕ → ℕ → Record
record_of kind yard farm byte3 amount = record { kind = kind; yard = yard; farm = farm; byte3 = byte3; amount = amount }

-- how many whole records the bytes hold
abbrev pub records : List ℕ → ℕ
records s = length s / 8

-- record i of the bytes
unfoldable pub record_at : List ℕ → ℕ → Record
record_at s i =
    record_of (get_or s (8 * i) 0) (get_or s (8 * i + 1) 0) (get_or s (8 * i + 2) 0) (get_or s (8 * i + 3) 0)
    (word (get_or s (8 * i + 4) 0) (get_or s (8 * i + 5) 0) (get_or s (8 * i + 6) 0) (get_or s (8 * i + 7) 0))

-- its amount
unfoldable pub amount_at : List ℕ → ℕ → ℕ
amount_at bytes i = (record_at bytes i).amount

-- record i where the bytes hold it whole, else a record of zeros
unfoldable pub whole_record_at : List ℕ → ℕ → Record
whole_record_at s i = cond (leb (8 * i + 8) (length s)) (record_at s i) (record_of 0 0 0 0 0)

-- the eight bytes of a record
unfoldable pub bytes_of : Record → List ℕ
bytes_of r =
    r.kind ∷ r.yard ∷ r.farm ∷ r.byte3
    ∷ r.amount % 256 ∷ r.amount / 256 % 256 ∷ r.amount / 65536 % 256 ∷ r.amount / 16777216 % 256 ∷ []

-- the area with the bytes in the place of those from the offset on
unfoldable pub splice : List ℕ → ℕ → List ℕ → List ℕ
splice area at bytes = take at area ++ bytes ++ drop (at + length bytes) area

-- the area with the record at an offset, or as it was where the record does not fit
unfoldable pub put_at : List ℕ → ℕ → Record → List ℕ
put_at area at r = cond (leb (at + 8) (length area)) (splice area at (bytes_of r)) area
