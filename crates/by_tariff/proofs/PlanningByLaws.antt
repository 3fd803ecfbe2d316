-- The plans by a tariff: they ask questions 1 to 4 and 10 of the sheet of hauls first, and an accepted call is accepted on that sheet.
use Prim.Native.Nat.{ℕ}
use mathlib.Core.Path.{◌≡◌}
use mathlib.Core.List.{List}
use Rattle.model.specs.Answers.{accepted}
use Rattle.model.proofs.AnswerLaws.{passed_first}
use Rattle.questions.proofs.ReadingLaws.{reading_loads}
use Rattle.tariff.specs.declared.TariffChoice.{TariffChoice}
use Rattle.distances.specs.Priced.{sheet_by}
use Rattle.distances.proofs.CallLaws.{FormFirst}
use Rattle.price.specs.Pricing.{Plan}
use Rattle.search.specs.Planning.{open_planning, limited_planning}
use Rattle.by_tariff.specs.PlanningBy.{open_planning_by, limited_planning_by}

pub open_first : (room : ℕ) → FormFirst (λ h. open_planning h room)
unfolding open_planning
open_first room h k e = rw (reading_loads h k e)

pub limited_first : (k room : ℕ) → FormFirst (λ h. limited_planning h k room)
unfolding limited_planning
limited_first k room h j e = rw (reading_loads h j e)

module _ (choice : TariffChoice) (tariff s : List ℕ) (room : ℕ) (p : Plan) where
  pub open_on_hauls : open_planning_by choice tariff s room ≡ accepted p
      → (h : List ℕ) × (sheet_by choice tariff s ≡ accepted h) × (open_planning h room ≡ accepted p)
  unfolding open_planning_by
  open_on_hauls e = passed_first (sheet_by choice tariff s) (λ h. open_planning h room) p e

  pub limited_on_hauls : (k : ℕ) → limited_planning_by choice tariff s k room ≡ accepted p
      → (h : List ℕ) × (sheet_by choice tariff s ≡ accepted h) × (limited_planning h k room ≡ accepted p)
  unfolding limited_planning_by
  limited_on_hauls k e = passed_first (sheet_by choice tariff s) (λ h. limited_planning h k room) p e
