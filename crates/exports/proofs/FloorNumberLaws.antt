-- The number of the call for a floor: its answer keeps to its bits, so the number says what the call answered, and the sum that it tells is a floor.
use Prim.Native.Nat.{ℕ, ◌≤◌}
use native.Mathlib.Omega.{arith}
use mathlib.Core.Path.{◌≡◌, ap, subst, ◌∙◌}
use mathlib.Core.Bool.{Bool, true}
use mathlib.Core.List.{List}
use Rattle.model.specs.Least.{any}
use Rattle.model.specs.Instance.{total_cost}
use Rattle.model.specs.Answers.{accepted}
use Rattle.record.specs.Records.{amount_at}
use Rattle.questions.specs.Sheet.{yards, instance_of}
use Rattle.questions.proofs.AcceptedLaws.{door}
use Rattle.tariff.specs.declared.TariffChoice.{TariffChoice}
use Rattle.distances.specs.Priced.{sheet_by, OnHauls}
use Rattle.floor.specs.Offering.{question15, question16, offering}
use Rattle.floor.proofs.ReadOffLaws.{floor_fits}
use Rattle.floor_by.specs.OfferingBy.{offering_by}
use Rattle.floor_by.proofs.OfferingByLaws.{floor_on_hauls}
use Rattle.numbers.specs.Numbers.{sum_number, sum_told, refusal, SumKeepsBits, UnderAllTold}
use Rattle.numbers.proofs.SaidLaws.{SumSaid, sum_said}
use Rattle.exports.proofs.BitLaws.{asked_within, after_within, by_within}

sum_within : (s offers : List ℕ) → SumKeepsBits (offering s offers)
unfolding offering question16
sum_within s offers =
    after_within SumKeepsBits (λ k some few. (some, few)) s _ (λ m n e. asked_within SumKeepsBits (λ k some few. (some, few)) (question15 n offers) 15 _ (omega arith) (omega arith)
    (λ q. asked_within SumKeepsBits (λ k some few. (some, few)) (question16 s offers) 16 _ (omega arith) (omega arith)
    (λ h. let small = floor_fits (instance_of s) (amount_at offers) (door s m n e) h in omega (arith, small))))

module _ (choice : TariffChoice) (tariff s offers : List ℕ) where
  pub sum_by_within : SumKeepsBits (offering_by choice tariff s offers)
  unfolding offering_by
  sum_by_within = by_within SumKeepsBits (λ k some few. (some, few)) choice tariff s (λ h. offering h offers) (λ h. sum_within h offers)

  -- so every caller reads the call's answer off its number
  pub floor_by_said : SumSaid (offering_by choice tariff s offers)
  floor_by_said = sum_said (offering_by choice tariff s offers) sum_by_within

  -- what is promised by the number of an accepted call holds of the sum, on the sheet of hauls
  pub floor_by_promised : (sum : ℕ) → offering_by choice tariff s offers ≡ accepted sum
      → OnHauls (sheet_by choice tariff s) (λ h. UnderAllTold h (sum_number (offering_by choice tariff s offers)))
      → (h : List ℕ) × (sheet_by choice tariff s ≡ accepted h)
      × ((rival : ℕ → Bool) → any (yards h) rival ≡ true → sum ≤ total_cost (instance_of h) rival)
  floor_by_promised sum e told =
      let r = floor_on_hauls choice tariff s offers sum e in
      let said = subst SumSaid e floor_by_said in
      let told_sum : sum_told (sum_number (offering_by choice tariff s offers)) ≡ sum = ap (λ a. sum_told (sum_number a)) e ∙ said.1 in
      (r.0, r.1, λ rival some. subst (λ x. x ≤ total_cost (instance_of r.0) rival) told_sum (told r.0 r.1 (ap (λ a. refusal (sum_number a)) e ∙ said.0) rival some))
