-- "A sheet of distances has distances as haul amounts; questions 5 and 6, and the records of a plan, hold the priced hauls" (document 02,
-- paper 3): a call on a sheet of distances is the call on the sheet of its hauls.
use Rattle.std.specs.Prelude.{ℕ, ◌≡◌, Bool, cond, List, eqb}
use Rattle.model.specs.Loops.{all_below, join}
use Rattle.model.specs.Answers.{Answer, accepted, ask, after}
use Rattle.record.specs.declared.Record.{Record}
use Rattle.record.specs.Records.{records, record_of, record_at, bytes_of}
use Rattle.questions.specs.Bounds.{haul_kind}
use Rattle.questions.specs.Sheet.{yards, hauls}
use Rattle.questions.specs.Questions.{amount_within}
use Rattle.questions.specs.declared.Counts.{Counts}
use Rattle.questions.specs.Reading.{form_and_loads, reading}
use Rattle.tariff.specs.Bands.{Bands, haul_by, last_end}
use Rattle.tariff.specs.House.{house}
use Rattle.tariff.specs.Reading.{tariff_reading}
use Rattle.tariff.specs.declared.TariffChoice.{TariffChoice}
use Rattle.tariff.specs.declared.TariffChoice.TheVariants.{NoTariff, HouseTariff, GivenTariff}

-- the record with what f charges in the place of its amount, where it is a haul; fees stay
unfoldable pub priced_record : (ℕ → ℕ) → Record → Record
priced_record f r = cond (eqb r.kind haul_kind) (record_of r.kind r.yard r.farm r.byte3 (f r.amount)) r

unfoldable pub priced_at : (ℕ → ℕ) → List ℕ → ℕ → List ℕ
priced_at f s i = bytes_of (priced_record f (record_at s i))

-- the sheet with a haul in the place of each distance
unfoldable pub priced_sheet : (ℕ → ℕ) → List ℕ → List ℕ
priced_sheet f s = join (records s) (priced_at f s)

-- 13. Is no distance past the last end?
unfoldable pub question13 : ℕ → List ℕ → Bool
question13 end s = all_below (hauls s) (amount_within s (yards s) end)

-- The sheet of hauls by a price for each distance up to an end: "13 for a distance past the last end, just before question 5", so after 1 to 4 and 10.
unfoldable pub priced_by : (ℕ → ℕ) → ℕ → List ℕ → Answer (List ℕ)
priced_by f end s = after (form_and_loads s) (λ c. ask (question13 end s) 13 (accepted (priced_sheet f s)))

-- by the bands of a tariff
abbrev pub under_tariff : Bands → List ℕ → Answer (List ℕ)
under_tariff b s = priced_by (haul_by b) (last_end b) s

-- by the tariff that the bytes hold: "11 .. and then 12 .., both ahead of question 1"
unfoldable pub under_given : List ℕ → List ℕ → Answer (List ℕ)
under_given tariff s = after (tariff_reading tariff) (λ b. under_tariff b s)

-- The sheet of hauls that a call goes by: "Every call on a sheet .. may be given a tariff, or the house one, beside it".
unfoldable pub sheet_by : TariffChoice → List ℕ → List ℕ → Answer (List ℕ)
sheet_by NoTariff tariff s = accepted s
sheet_by HouseTariff tariff s = under_tariff house s
sheet_by GivenTariff tariff s = under_given tariff s

-- Reading by a tariff, or by none. Every other call by a tariff is its own definition in the place of `reading`.
unfoldable pub reading_by : TariffChoice → List ℕ → List ℕ → Answer Counts
reading_by choice tariff s = after (sheet_by choice tariff s) reading

-- what holds of the sheet of hauls that a call goes by, where there is one: "reading, our call and the rival's prices go by the same one"
abbrev pub OnHauls : Answer (List ℕ) → (List ℕ → Type 0) → Type 0
OnHauls hauls P = (h : List ℕ) → hauls ≡ accepted h → P h
