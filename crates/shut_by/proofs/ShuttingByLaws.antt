-- The two calls by a tariff: they ask questions 1 to 4 and 10 of the sheet of hauls first, an accepted call is accepted on that sheet, and the change
-- is the difference of full costs there.
use Prim.Native.Nat.{ℕ}
use mathlib.Core.Path.{◌≡◌, sym, ap, ◌∙◌}
use mathlib.Core.List.{List}
use lib.IntN.{ℤ}
use Rattle.model.specs.Answers.{accepted, after}
use Rattle.model.proofs.AnswerLaws.{passed_first}
use Rattle.questions.proofs.ReadingLaws.{reading_loads}
use Rattle.tariff.specs.declared.TariffChoice.{TariffChoice}
use Rattle.distances.specs.Priced.{sheet_by, OnHauls}
use Rattle.distances.proofs.CallLaws.{FormFirst}
use Rattle.nearest.specs.Nearest.{Nearest}
use Rattle.std.specs.Prelude.{Result}
use Rattle.refusal.specs.declared.Refusal.{Refusal}
use Rattle.refusal.specs.Numbers.{answer_of}
use Rattle.shut.specs.Shutting.{seconding, shutting, IsDifference}
use Rattle.shut.proofs.ShuttingLaws.{second_unread, shut_unread, is_difference}
use Rattle.shut_by.specs.ShuttingBy.{seconding_by, shutting_by}

pub second_first : (set farm : ℕ) → FormFirst (λ h. seconding h set farm)
second_first set farm h k e = sym (second_unread h set farm k (reading_loads h k e))

pub shut_first : (set yard : ℕ) → FormFirst (λ h. shutting h set yard)
shut_first set yard h k e = sym (shut_unread h set yard k (reading_loads h k e))

module _ (choice : TariffChoice) (tariff s : List ℕ) (set : ℕ) where
  pub second_on_hauls : (farm : ℕ) (r : Nearest) → seconding_by choice tariff s set farm ≡ accepted r
      → (h : List ℕ) × (sheet_by choice tariff s ≡ accepted h) × (seconding h set farm ≡ accepted r)
  unfolding seconding_by
  second_on_hauls farm r e = passed_first (sheet_by choice tariff s) (λ h. seconding h set farm) r e

  pub shut_on_hauls : (yard : ℕ) (change : ℤ) → shutting_by choice tariff s set yard ≡ accepted change
      → (h : List ℕ) × (sheet_by choice tariff s ≡ accepted h) × (shutting h set yard ≡ accepted change)
  unfolding shutting_by
  shut_on_hauls yard change e = passed_first (sheet_by choice tariff s) (λ h. shutting h set yard) change e

  -- both clauses, from the answer
  pub shut_answers_by : (yard : ℕ) (r : Result ℤ Refusal) → answer_of r ≡ after (sheet_by choice tariff s) (λ h. shutting h set yard)
      → (answer_of r ≡ shutting_by choice tariff s set yard) × OnHauls (sheet_by choice tariff s) (λ h. IsDifference h set yard r)
  unfolding shutting_by
  shut_answers_by yard r e = (e, (λ h is. is_difference h set yard r (e ∙ ap (λ a. after a (λ h. shutting h set yard)) is)))
