-- The call by a tariff: it asks questions 1 to 4 and 10 of the sheet of hauls first, an accepted call is accepted on that sheet, and its sum is a floor
-- there.
use Prim.Native.Nat.{ℕ}
use mathlib.Core.Path.{◌≡◌, sym, ap, ◌∙◌}
use mathlib.Core.List.{List}
use Rattle.model.specs.Answers.{accepted, after}
use Rattle.model.proofs.AnswerLaws.{passed_first}
use Rattle.questions.proofs.ReadingLaws.{reading_loads}
use Rattle.tariff.specs.declared.TariffChoice.{TariffChoice}
use Rattle.distances.specs.Priced.{sheet_by, OnHauls}
use Rattle.distances.proofs.CallLaws.{FormFirst}
use Rattle.std.specs.Prelude.{Result}
use Rattle.refusal.specs.declared.Refusal.{Refusal}
use Rattle.refusal.specs.Numbers.{answer_of}
use Rattle.floor.specs.Offering.{offering, UnderAll}
use Rattle.floor.proofs.OfferingLaws.{unread, under_all}
use Rattle.floor_by.specs.OfferingBy.{offering_by}

pub offering_first : (offers : List ℕ) → FormFirst (λ h. offering h offers)
offering_first offers h k e = sym (unread h offers k (reading_loads h k e))

module _ (choice : TariffChoice) (tariff s offers : List ℕ) where
  pub floor_on_hauls : (sum : ℕ) → offering_by choice tariff s offers ≡ accepted sum
      → (h : List ℕ) × (sheet_by choice tariff s ≡ accepted h) × (offering h offers ≡ accepted sum)
  unfolding offering_by
  floor_on_hauls sum e = passed_first (sheet_by choice tariff s) (λ h. offering h offers) sum e

  -- both clauses, from the answer
  pub answers_by : (r : Result ℕ Refusal) → answer_of r ≡ after (sheet_by choice tariff s) (λ h. offering h offers)
      → (answer_of r ≡ offering_by choice tariff s offers) × OnHauls (sheet_by choice tariff s) (λ h. UnderAll h r)
  unfolding offering_by
  answers_by r e = (e, (λ h is. under_all h offers r (e ∙ ap (λ a. after a (λ h. offering h offers)) is)))
