-- What the one pass over a good sheet tests, for private functions alone: each record whole, by what the questions ask of it at its place.
use Rattle.std.specs.Prelude.{ℕ, ◌≡◌, Bool, true, cond, ◌&&◌, List, eqb, leb, Option, Some, None}
use Rattle.model.specs.Loops.{all_below}
use Rattle.record.specs.declared.Record.{Record}
use Rattle.record.specs.Records.{record_at}
use Rattle.questions.specs.Bounds.{yard_kind, haul_kind, most_yards, most_loads, most_fee, most_haul}
use Rattle.model.specs.Answers.{accepted}
use Rattle.questions.specs.Sheet.{yards, place, farm_byte}
use Rattle.questions.specs.Questions.{well_formed, question5}
use Rattle.questions.specs.Reading.{counts, form_and_loads}
use Rattle.questions.specs.declared.Counts.{Counts}
use Rattle.sheet.specs.Hauls.{Filled}

-- the record is well-formed, has this kind, yard, farm and byte 3, and the amount is at most so much
unfoldable pub record_is : Record → ℕ → ℕ → ℕ → ℕ → ℕ → Bool
record_is r kind yard farm byte3 most =
    well_formed r && (eqb r.kind kind && (eqb r.yard yard && (eqb r.farm farm && (eqb r.byte3 byte3 && leb r.amount most))))

-- record i is that of yard i, its fee within bounds
unfoldable pub good_yard : List ℕ → ℕ → Bool
good_yard s i = record_is (record_at s i) yard_kind i 0 0 most_fee

-- how many yards stand first, where they are not too many and each is good; else 0
unfoldable pub good_yards : List ℕ → ℕ
good_yards s = cond (leb (yards s) most_yards && all_below (yards s) (good_yard s)) (yards s) 0

-- the record at the place of farm p's haul to yard a is that haul, within bounds, and its byte 3 is that of the farm's first record
unfoldable pub good_haul : List ℕ → ℕ → ℕ → ℕ → Bool
good_haul s m p a = record_is (record_at s (place m p a)) haul_kind a p (farm_byte s m p) most_haul

unfoldable pub good_farm : List ℕ → ℕ → ℕ → Bool
good_farm s m p = leb (farm_byte s m p) most_loads && all_below m (good_haul s m p)

-- questions 1 to 4, 10 and 5 are answered yes, and m and n are the counts
abbrev pub Passes : List ℕ → ℕ → ℕ → Type 0
Passes s m n = (form_and_loads s ≡ accepted (counts m n)) × (question5 s ≡ true)

-- some question of 1 to 4, 10 and 5 is answered no
abbrev pub Fails : List ℕ → Type 0
Fails s = (m n : ℕ) → Passes s m n → ⊥

-- what the answer of the one pass says: with counts, that the sheet passes and the table has its hauls; without, that the sheet fails
abbrev pub Told : List ℕ → Option Counts → List ℕ → Type 0
Told s (Some c) table = Passes s c.yards c.farms × Filled s c.yards c.farms 0 table
Told s None table = Fails s
