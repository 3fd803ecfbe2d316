-- Pricing by a tariff: it asks questions 1 to 4 and 10 of the sheet of hauls first, and an accepted call is accepted on that sheet.
use Prim.Native.Nat.{ℕ}
use mathlib.Core.Path.{◌≡◌}
use mathlib.Core.List.{List}
use Rattle.model.specs.Answers.{accepted}
use Rattle.model.proofs.AnswerLaws.{passed_first}
use Rattle.questions.proofs.ReadingLaws.{reading_loads}
use Rattle.tariff.specs.declared.TariffChoice.{TariffChoice}
use Rattle.distances.specs.Priced.{sheet_by}
use Rattle.distances.proofs.CallLaws.{FormFirst}
use Rattle.price.specs.Pricing.{Plan, pricing}
use Rattle.price_by.specs.PricingBy.{pricing_by}
use Rattle.price.proofs.PricingLaws.{unread}

pub pricing_first : (set room : ℕ) → FormFirst (λ h. pricing h set room)
pricing_first set room h k e = unread h set room k (reading_loads h k e)

pub priced_on_hauls : (choice : TariffChoice) (tariff s : List ℕ) (set room : ℕ) (p : Plan) → pricing_by choice tariff s set room ≡ accepted p
    → (h : List ℕ) × (sheet_by choice tariff s ≡ accepted h) × (pricing h set room ≡ accepted p)
unfolding pricing_by
priced_on_hauls choice tariff s set room p e = passed_first (sheet_by choice tariff s) (λ h. pricing h set room) p e
