-- What reading a tariff gives.
use Rattle.std.specs.Prelude.{ℕ, ◌≡◌, List, Result, IsOkAnd, IsErrAnd}
use Rattle.model.specs.Answers.{Answer, accepted, refused, ask}
use Rattle.record.specs.Records.{records}
use Rattle.refusal.specs.declared.Refusal.{Refusal}
use Rattle.refusal.specs.Numbers.{number_of}
use Rattle.tariff.specs.declared.bands.Tariff.{Tariff}
use Rattle.tariff.specs.Bands.{Bands}
use Rattle.tariff.specs.Questions.{band_at, question11, question12}
use Rattle.tariff.specs.Pricing.{PricesAs}

-- the bands that the bytes hold
unfoldable pub bands_of : List ℕ → Bands
bands_of t = record { count = records t; band = band_at t }

-- "11 for a gap, an overlap, an empty band or another broken record or length, and then 12 for a rate above the band before it"
unfoldable pub tariff_reading : List ℕ → Answer Bands
tariff_reading t = ask (question11 t) 11 (ask (question12 t) 12 (accepted (bands_of t)))

-- the code's answer for each of document 02's: a tariff that prices as the bands do, or the number
abbrev pub ReadAs : Answer Bands → Result Tariff Refusal → Type 0
ReadAs (accepted b) r = IsOkAnd r (λ tariff. PricesAs b tariff)
ReadAs (refused k) r = IsErrAnd r (λ refusal. number_of refusal ≡ k)
