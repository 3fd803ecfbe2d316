-- The kinds of the records and their bytes (document 01, "The haul sheet" and "The plan area"; document 02, papers 3 and 10).
use Rattle.std.specs.Prelude.{ℕ, ◌≡◌, Result, MatchResult}
use Rattle.record.specs.declared.kind.Kind.{Kind}
use Rattle.record.specs.declared.kind.Kind.TheVariants.{Farm, Band, Haul, Moves, Open, Total, Offer, Yard}
use Rattle.record.specs.declared.kind.UnknownKind.{UnknownKind}

-- the byte of each kind
abbrev pub byte_of : Kind → ℕ
byte_of Farm = 0x41
byte_of Band = 0x42
byte_of Haul = 0x48
byte_of Moves = 0x4D
byte_of Open = 0x4F
byte_of Total = 0x54
byte_of Offer = 0x56
byte_of Yard = 0x59

-- the result is the kind that has this byte, or the byte itself where no kind has it
abbrev pub KindOf : ℕ → Result Kind UnknownKind → Type 0
KindOf byte r = MatchResult r (λ kind. byte_of kind ≡ byte) (λ e. (e.0 ≡ byte) × ((kind : Kind) → ¬ (byte_of kind ≡ byte)))
