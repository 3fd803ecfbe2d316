-- A floor under limited lists by a tariff. Of two sheets of distances that differ in their fees alone the sheets of hauls differ so too, since fees are not
-- priced: what is accepted on the copy is under k times the fee and the hauls, by the tariff, of at most k yards.
use Prim.Native.Nat.{ℕ, ◌+◌, ◌*◌, ◌/◌, ◌≤◌}
use native.Mathlib.Omega.{arith}
use mathlib.Core.Path.{◌≡◌, refl, sym, ap, subst, ◌∙◌}
use mathlib.Core.Bool.{Bool, true}
use mathlib.Core.List.{List}
use Rattle.model.specs.Least.{any}
use Rattle.model.specs.Sets.{count}
use Rattle.model.specs.Instance.{service_cost}
use Rattle.model.specs.Answers.{accepted, after}
use Rattle.model.proofs.AnswerLaws.{same_result, passed_first}
use Rattle.record.specs.Records.{record_of}
use Rattle.record.proofs.RecordLaws.{Bytes}
use Rattle.questions.specs.Bounds.{yard_kind, most_fee}
use Rattle.questions.specs.Sheet.{yards, instance_of}
use Rattle.questions.specs.Reading.{counts, reading}
use Rattle.questions.proofs.FormLaws.{yards_le}
use Rattle.questions.proofs.AcceptedLaws.{HasForm}
use Rattle.questions.proofs.SameFormLaws.{same_form_and_loads}
use Rattle.tariff.specs.declared.TariffChoice.{TariffChoice}
use Rattle.tariff.specs.declared.TariffChoice.TheVariants.{NoTariff, HouseTariff, GivenTariff}
use Rattle.tariff.specs.Bands.{Bands, haul_by, last_end}
use Rattle.tariff.specs.House.{house}
use Rattle.tariff.specs.Reading.{tariff_reading}
use Rattle.tariff.proofs.MakingLaws.{Allowed, read_allowed}
use Rattle.tariff.proofs.HouseLaws.{house_allowed}
use Rattle.distances.specs.Priced.{priced_record, priced_sheet, question13, priced_by, under_tariff, under_given, sheet_by, reading_by}
use Rattle.distances.proofs.PricedLaws.{priced_other, sheet_length}
use Rattle.distances.proofs.HaulLaws.{record_is, yards_kept, priced_is}
use Rattle.floor.specs.Offering.{WithFees}
use Rattle.floor.proofs.LimitedLaws.{copy_form, copy_within, copy_read, under_limited}
use Rattle.floor_by.specs.OfferingBy.{offering_by}
use Rattle.floor_by.proofs.OfferingByLaws.{floor_on_hauls}

-- ---- the sheets of hauls

module _ (amount : ℕ) (s t : List ℕ) (w : WithFees amount s t) (bytes : Bytes s) (copy_bytes : Bytes t) where
  module _ (b : Bands) (allowed : Allowed b) where
    priced_with_fees : (m n : ℕ) → HasForm s m n → (m2 n2 : ℕ) → HasForm t m2 n2
        → WithFees amount (priced_sheet (haul_by b) s) (priced_sheet (haul_by b) t)
    priced_with_fees m n f m2 n2 g =
        let kept = yards_kept b allowed s bytes m n f in
        record {
          as_long = sheet_length (haul_by b) t ∙ ap (λ (k : ℕ). 8 * (k / 8)) w.as_long ∙ sym (sheet_length (haul_by b) s);
          yard_records = λ i l.
              record_is b allowed t copy_bytes m2 n2 g i (omega (arith, w.as_long, yards_le s))
              ∙ ap (priced_record (haul_by b)) (w.yard_records i (omega arith))
              ∙ priced_other (haul_by b) (record_of yard_kind i 0 0 amount) (λ e. omega arith);
          other_records = λ i l within.
              record_is b allowed t copy_bytes m2 n2 g i (omega (arith, w.as_long, sheet_length (haul_by b) s))
              ∙ ap (priced_record (haul_by b)) (w.other_records i (omega arith) (omega (arith, sheet_length (haul_by b) s)))
              ∙ sym (record_is b allowed s bytes m n f i (omega (arith, sheet_length (haul_by b) s)));
        }

    under_with_fees : (h g : List ℕ) → under_tariff b s ≡ accepted h → under_tariff b t ≡ accepted g → WithFees amount h g
    under_with_fees h g of_s of_t =
        let p = priced_is b s h of_s in
        let q = priced_is b t g of_t in
        subst (λ (x : List ℕ). WithFees amount x g) p.4
        (subst (λ (y : List ℕ). WithFees amount (priced_sheet (haul_by b) s) y) q.4
        (priced_with_fees p.0.yards p.0.farms p.2 q.0.yards q.0.farms q.2))

  pub with_fees_by : (choice : TariffChoice) (tariff : List ℕ) → Bytes tariff → (h g : List ℕ)
      → sheet_by choice tariff s ≡ accepted h → sheet_by choice tariff t ≡ accepted g → WithFees amount h g
  unfolding sheet_by under_given
  with_fees_by NoTariff tariff tariff_bytes h g of_s of_t =
      subst (λ (x : List ℕ). WithFees amount x g) (same_result of_s) (subst (λ (y : List ℕ). WithFees amount s y) (same_result of_t) w)
  with_fees_by HouseTariff tariff tariff_bytes h g of_s of_t = under_with_fees house house_allowed h g of_s of_t
  with_fees_by GivenTariff tariff tariff_bytes h g of_s of_t =
      let r = passed_first (tariff_reading tariff) (λ b. under_tariff b s) h of_s in
      let q = passed_first (tariff_reading tariff) (λ b. under_tariff b t) g of_t in
      let same : q.0 ≡ r.0 = same_result (sym q.1 ∙ r.1) in
      under_with_fees r.0 (read_allowed tariff tariff_bytes r.0 r.1) h g r.2
      (subst (λ (b : Bands). under_tariff b t ≡ accepted g) same q.2)

  -- ---- reading accepts the copy by the tariff too, where the fee is one that question 5 passes

  copy_priced : (b : Bands) (h : List ℕ) → under_tariff b s ≡ accepted h → under_tariff b t ≡ accepted (priced_sheet (haul_by b) t)
  unfolding priced_by question13
  copy_priced b h of_s =
      let p = priced_is b s h of_s in
      let m = p.0.yards in
      let n = p.0.farms in
      rw (same_form_and_loads t s (copy_form amount s t w m n p.2), p.1, copy_within amount s t w m n p.2 (last_end b), p.3)

  copy_by : (choice : TariffChoice) (tariff h : List ℕ) → sheet_by choice tariff s ≡ accepted h → (g : List ℕ) × (sheet_by choice tariff t ≡ accepted g)
  unfolding sheet_by under_given
  copy_by NoTariff tariff h of_s = (t, refl)
  copy_by HouseTariff tariff h of_s = (priced_sheet (haul_by house) t, copy_priced house h of_s)
  copy_by GivenTariff tariff h of_s =
      let r = passed_first (tariff_reading tariff) (λ b. under_tariff b s) h of_s in
      (priced_sheet (haul_by r.0) t, ap (λ a. after a (λ b. under_tariff b t)) r.1 ∙ copy_priced r.0 h r.2)

  pub copy_read_by : (choice : TariffChoice) (tariff : List ℕ) → Bytes tariff → (m n : ℕ) → reading_by choice tariff s ≡ accepted (counts m n)
      → amount ≤ most_fee → reading_by choice tariff t ≡ accepted (counts m n)
  unfolding reading_by
  copy_read_by choice tariff tariff_bytes m n read small =
      let on = passed_first (sheet_by choice tariff s) reading (counts m n) read in
      let copy = copy_by choice tariff on.0 on.1 in
      rw copy.1 (copy_read amount on.0 copy.0 (with_fees_by choice tariff tariff_bytes on.0 copy.0 on.1 copy.1) m n on.2 small)

  -- ---- the floor

  -- "sum to at most k times L and the hauls of any non-empty set of at most k yards", by the tariff
  pub under_limited_by : (choice : TariffChoice) (tariff : List ℕ) → Bytes tariff → (h : List ℕ) → sheet_by choice tariff s ≡ accepted h
      → (m n : ℕ) → reading h ≡ accepted (counts m n) → (offers : List ℕ) (sum : ℕ) → offering_by choice tariff t offers ≡ accepted sum
      → (k : ℕ) (rival : ℕ → Bool) → any (yards h) rival ≡ true → count (yards h) rival ≤ k → sum ≤ k * amount + service_cost (instance_of h) rival
  under_limited_by choice tariff tariff_bytes h of_s m n e offers sum told k rival some few =
      let on = floor_on_hauls choice tariff t offers sum told in
      under_limited amount h on.0 (with_fees_by choice tariff tariff_bytes h on.0 of_s on.1) m n e offers sum on.2 k rival some few
