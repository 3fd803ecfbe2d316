-- The numbers of the calls by a tariff: they say what the call answered, and what is promised by them holds on the sheet of hauls.
use Prim.Native.Nat.{ℕ}
use mathlib.Core.Path.{◌≡◌}
use mathlib.Core.List.{List}
use lib.ListN.{length}
use Rattle.model.specs.Answers.{Answer, accepted, after}
use Rattle.model.specs.Plans.{open_start, open_search, limited_start, limited_search}
use Rattle.questions.specs.Sheet.{instance_of}
use Rattle.questions.specs.Reading.{reading}
use Rattle.tariff.specs.declared.TariffChoice.{TariffChoice}
use Rattle.distances.specs.Priced.{sheet_by, reading_by, OnHauls}
use Rattle.refusal.specs.Numbers.{answer_by}
use Rattle.price.specs.Pricing.{Plan, answer, area_after, OfPlan, pricing}
use Rattle.price_by.specs.PricingBy.{pricing_by}
use Rattle.std.specs.Prelude.{Result}
use Rattle.price.specs.declared.Written.{Written}
use Rattle.price.proofs.OfPlanLaws.{priced_set}
use Rattle.price_by.proofs.PricingByLaws.{priced_on_hauls}
use Rattle.search.specs.Planning.{open_planning, limited_planning}
use Rattle.by_tariff.specs.PlanningBy.{open_planning_by, limited_planning_by}
use Rattle.search.proofs.PromiseLaws.{open_plan_of, limited_plan_of}
use Rattle.by_tariff.proofs.PlanningByLaws.{open_on_hauls, limited_on_hauls}
use Rattle.numbers.specs.Numbers.{result_number, OfWritten, KeepsBits, CountsKeepBits}
use Rattle.numbers.proofs.SaidLaws.{Said, said, CountsSaid, counts_said, of_written, written_of}
use Rattle.exports.proofs.BitLaws.{by_within}
use Rattle.exports.proofs.NumberLaws.{PlanKeepsBits, plan_numbered, counts_within, pricing_within, open_within, limited_within}

module _ (choice : TariffChoice) (tariff s : List ℕ) where
  -- ---- the answers keep to their bits

  pub counts_by_within : CountsKeepBits (reading_by choice tariff s)
  unfolding reading_by
  counts_by_within = by_within CountsKeepBits (λ k some few. (some, few)) choice tariff s reading counts_within

  plan_by_within : (call : List ℕ → Answer Plan) → ((h : List ℕ) → PlanKeepsBits (call h)) → PlanKeepsBits (after (sheet_by choice tariff s) call)
  plan_by_within = by_within PlanKeepsBits plan_numbered choice tariff s

  module _ (room : ℕ) where
    pub pricing_by_within : (set : ℕ) → KeepsBits (answer (pricing_by choice tariff s set room))
    unfolding pricing_by
    pricing_by_within set = plan_by_within (λ h. pricing h set room) (λ h. pricing_within h room set)

    pub open_by_within : KeepsBits (answer (open_planning_by choice tariff s room))
    unfolding open_planning_by
    open_by_within = plan_by_within (λ h. open_planning h room) (λ h. open_within h room)

    pub limited_by_within : (k : ℕ) → KeepsBits (answer (limited_planning_by choice tariff s k room))
    unfolding limited_planning_by
    limited_by_within k = plan_by_within (λ h. limited_planning h k room) (λ h. limited_within h room k)

    -- ---- so every caller reads the call's answer off its number

    pub pricing_by_said : (set : ℕ) → Said (answer (pricing_by choice tariff s set room))
    pricing_by_said set = said (answer (pricing_by choice tariff s set room)) (pricing_by_within set)

    pub open_by_said : Said (answer (open_planning_by choice tariff s room))
    open_by_said = said (answer (open_planning_by choice tariff s room)) open_by_within

    pub limited_by_said : (k : ℕ) → Said (answer (limited_planning_by choice tariff s k room))
    limited_by_said k = said (answer (limited_planning_by choice tariff s k room)) (limited_by_within k)

  pub reading_by_said : CountsSaid (reading_by choice tariff s)
  reading_by_said = counts_said (reading_by choice tariff s) counts_by_within

  -- ---- what is promised of a plan is promised of the bytes that the number tells

  pub of_written_by : {E : Type 0} (r : ℕ) (area : List ℕ) (P : List ℕ → ℕ → Type 0) (number : E → ℕ) (p : Result Written E) → KeepsBits (answer_by number p)
      → r ≡ result_number (answer_by number p)
      → OnHauls (sheet_by choice tariff s) (λ h. OfPlan p area (P h)) → OnHauls (sheet_by choice tariff s) (λ h. OfWritten r area (P h))
  of_written_by r area P number p within e made h is = of_written r area (P h) number p within e (made h is)

  -- ---- and is used: what is promised by the number of an accepted call holds, on the sheet of hauls, of its plan's own set

  module _ (area : List ℕ) (p : Plan) (P : List ℕ → ℕ → Type 0) where
    pub pricing_by_promised : (set : ℕ) → pricing_by choice tariff s set (length area) ≡ accepted p
        → OfWritten (result_number (answer (pricing_by choice tariff s set (length area)))) (area_after (pricing_by choice tariff s set (length area)) area) (P s) → P s set
    pricing_by_promised set e =
        let r = priced_on_hauls choice tariff s set (length area) p e in
        written_of (pricing_by choice tariff s set (length area)) p e (pricing_by_within (length area) set) area (P s) set (priced_set r.0 set (length area) p r.2)

    pub open_by_promised : open_planning_by choice tariff s (length area) ≡ accepted p
        → OnHauls (sheet_by choice tariff s) (λ h. OfWritten (result_number (answer (open_planning_by choice tariff s (length area)))) (area_after (open_planning_by choice tariff s (length area)) area) (P h))
        → (h : List ℕ) × (sheet_by choice tariff s ≡ accepted h) × P h (open_search (instance_of h) (open_start (instance_of h))).set
    open_by_promised e made =
        let r = open_on_hauls choice tariff s (length area) p e in (
          r.0,
          r.1,
          written_of (open_planning_by choice tariff s (length area)) p e (open_by_within (length area)) area (P r.0) _ (open_plan_of r.0 (length area) p r.2) (made r.0 r.1),
        )

    pub limited_by_promised : (k : ℕ) → limited_planning_by choice tariff s k (length area) ≡ accepted p
        → OnHauls (sheet_by choice tariff s) (λ h. OfWritten (result_number (answer (limited_planning_by choice tariff s k (length area)))) (area_after (limited_planning_by choice tariff s k (length area)) area) (P h))
        → (h : List ℕ) × (sheet_by choice tariff s ≡ accepted h) × P h (limited_search (instance_of h) (limited_start k)).set
    limited_by_promised k e made =
        let r = limited_on_hauls choice tariff s (length area) p k e in (
          r.0,
          r.1,
          written_of (limited_planning_by choice tariff s k (length area)) p e (limited_by_within (length area) k) area (P r.0) _ (limited_plan_of r.0 k (length area) p r.2) (made r.0 r.1),
        )
