-- How the sheet of hauls is handed to a call: where it is, and that the bytes lent are enough.
use Rattle.std.specs.Prelude.{ℕ, ◌≤◌, List, take, leb, Result, Ok, Err, OnOk}
use Rattle.model.specs.Answers.{Answer, accepted, refused, ask, after}
use Rattle.questions.specs.Bounds.{most_bytes}
use Rattle.questions.specs.Reading.{form_and_loads}
use Rattle.tariff.specs.declared.TariffChoice.{TariffChoice}
use Rattle.distances.specs.Priced.{sheet_by}
use Rattle.distances.specs.declared.priced.HaulSheet.{HaulSheet}
use Rattle.distances.specs.declared.priced.HaulSheet.TheVariants.{AsWritten, Priced}
use Rattle.refusal.specs.declared.Refusal.{Refusal}
use Rattle.refusal.specs.Numbers.{number_of}

-- the sheet, where questions 1 to 4 and 10 are answered yes
unfoldable pub formed : List ℕ → Answer (List ℕ)
formed h = after (form_and_loads h) (λ c. accepted h)

-- where the sheet of hauls lies: the caller's sheet, or the front of the bytes lent
abbrev pub sheet_within : HaulSheet → List ℕ → List ℕ → List ℕ
sheet_within AsWritten s lent = s
sheet_within (Priced bytes) s lent = take bytes lent

-- the sheet of hauls that the answer tells, with the caller's sheet and the bytes lent: of a priced one 1 to 4 and 10 are still to be asked
abbrev pub sheet_told : Result HaulSheet Refusal → List ℕ → List ℕ → Answer (List ℕ)
sheet_told (Ok AsWritten) s lent = accepted s
sheet_told (Ok (Priced bytes)) s lent = formed (take bytes lent)
sheet_told (Err refusal) s lent = refused (number_of refusal)

-- that of a call, where the bytes lent hold every sheet; else the number 0, which no question has
unfoldable pub hauls_within : ℕ → TariffChoice → List ℕ → List ℕ → Answer (List ℕ)
hauls_within room choice tariff s = ask (leb most_bytes room) 0 (sheet_by choice tariff s)

-- a priced sheet lies within the bytes lent
abbrev pub FitsIn : ℕ → Result HaulSheet Refusal → Type 0
FitsIn room (Ok AsWritten) = Unit {0}
FitsIn room (Ok (Priced bytes)) = bytes ≤ room
FitsIn room (Err refusal) = Unit {0}
