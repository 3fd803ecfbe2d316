-- What a buyer reads off the sheet of hauls: each haul is what the tariff charges for the distance, fees and loads stay, and distances that keep
-- the four-point rule give hauls that keep it.
use Prim.Native.Nat.{ℕ, ◌+◌, ◌*◌, ◌≤◌, ◌<◌}
use native.Mathlib.Nat.{mul-le-mul_right}
use native.Mathlib.Omega.{arith}
use mathlib.Core.Path.{◌≡◌, sym, ap, subst, ◌∙◌}
use mathlib.Core.Bool.{true}
use mathlib.Core.List.{List}
use borrow.Author.Tests.{leb-true}
use lib.Dec.{eqb, leb}
use Rattle.model.specs.Answers.{accepted, ask}
use Rattle.model.specs.Instance.{metric}
use Rattle.model.specs.Charges.{charged}
use Rattle.model.proofs.AnswerLaws.{same_result, asked, passed_first}
use Rattle.model.proofs.Bools.{cases}
use Rattle.model.proofs.LoopLaws.{all_at}
use Rattle.model.proofs.CostLaws.{metric_rule, rule_metric}
use Rattle.model.proofs.ChargeLaws.{charge_metric}
use Rattle.record.specs.declared.Record.{Record}
use Rattle.record.specs.Records.{records, record_at, amount_end}
use Rattle.record.proofs.RecordLaws.{Bytes, amount_small}
use Rattle.questions.specs.Bounds.{haul_kind}
use Rattle.questions.specs.Sheet.{yards, hauls, place, fee, haul, loads_byte, instance_by}
use Rattle.questions.specs.Questions.{amount_within}
use Rattle.questions.specs.declared.Counts.{Counts}
use Rattle.questions.specs.Reading.{form_and_loads}
use Rattle.questions.proofs.FormLaws.{hauls_are}
use Rattle.questions.proofs.AcceptedLaws.{HasForm, has_form}
use Rattle.questions.proofs.ReadingLaws.{loaded}
use Rattle.questions.proofs.SameFormLaws.{same_yards}
use Rattle.tariff.specs.declared.TariffChoice.TheVariants.{HouseTariff, GivenTariff}
use Rattle.tariff.specs.Bands.{Bands, haul_by, last_end}
use Rattle.tariff.specs.House.{house, haul_from_start}
use Rattle.tariff.specs.Reading.{tariff_reading}
use Rattle.tariff.proofs.BandLaws.{haul_charge}
use Rattle.tariff.proofs.MakingLaws.{Allowed, hauls_fit, read_allowed}
use Rattle.tariff.proofs.HouseLaws.{house_allowed, hauls_stay}
use Rattle.distances.specs.Priced.{priced_record, priced_sheet, question13, priced_by, under_tariff, under_given, sheet_by}
use Rattle.distances.proofs.PricedLaws.{priced_haul, priced_other, keeps_byte3, priced_record_at}
use Rattle.distances.proofs.FormKept.{form_same}

-- The hauls h of the distances s of m yards and n farms, by the bands b.
pub record HaulsOf (b : Bands) (s h : List ℕ) (m n : ℕ) : Type 0 where
  pub distances_form : HasForm s m n
  pub within_reach_lem : (a p : ℕ) → a < m → p < n → haul s m a p ≤ last_end b
  pub hauls_charged : (a p : ℕ) → a < m → p < n → haul h m a p ≡ haul_by b (haul s m a p)
  pub fees_kept : (i : ℕ) → i < m → fee h i ≡ fee s i
  pub loads_kept : (a p : ℕ) → a < m → p < n → loads_byte h m a p ≡ loads_byte s m a p
  pub metric_kept : metric (instance_by s m n) ≡ true → metric (instance_by h m n) ≡ true

module _ (b : Bands) (allowed : Allowed b) (s : List ℕ) (bytes : Bytes s) (m n : ℕ) (f : HasForm s m n) where
  fits : (i : ℕ) → i < records s → (priced_record (haul_by b) (record_at s i)).amount < amount_end
  unfolding priced_record
  fits i l =
      cases (eqb (record_at s i).kind haul_kind) (λ e. rw e (hauls_fit b allowed (record_at s i).amount)) (λ e. rw e (amount_small s bytes i))

  pub record_is : (i : ℕ) → i < records s → record_at (priced_sheet (haul_by b) s) i ≡ priced_record (haul_by b) (record_at s i)
  record_is i l = priced_record_at (haul_by b) s fits i l

  pub yards_kept : yards (priced_sheet (haul_by b) s) ≡ yards s
  yards_kept = same_yards (priced_sheet (haul_by b) s) s (form_same (haul_by b) s (omega (arith, f.long)) fits)

  place_within : (a p : ℕ) → a < m → p < n → place m p a < records s
  place_within a p la lp = let row : p * m + m ≤ n * m = omega (arith, mul-le-mul_right m lp) in omega (arith, f.long)

  haul_is : (a p : ℕ) → a < m → p < n → haul (priced_sheet (haul_by b) s) m a p ≡ haul_by b (haul s m a p)
  unfolding haul
  haul_is a p la lp =
      let kind = ap (λ (r : Record). r.kind) (f.haul_record a p la lp) in
      ap (λ (r : Record). r.amount)
      (record_is (place m p a) (place_within a p la lp) ∙ priced_haul (haul_by b) (record_at s (place m p a)) kind)

  fee_is : (i : ℕ) → i < m → fee (priced_sheet (haul_by b) s) i ≡ fee s i
  unfolding fee
  fee_is i l =
      let kind = ap (λ (r : Record). r.kind) (f.yard_record i l) in
      ap (λ (r : Record). r.amount)
      (record_is i (omega (arith, f.long)) ∙ priced_other (haul_by b) (record_at s i) (λ e. omega arith))

  loads_is : (a p : ℕ) → a < m → p < n → loads_byte (priced_sheet (haul_by b) s) m a p ≡ loads_byte s m a p
  unfolding loads_byte
  loads_is a p la lp =
      ap (λ (r : Record). r.byte3) (record_is (place m p a) (place_within a p la lp)) ∙ keeps_byte3 (haul_by b) (record_at s (place m p a))

  -- "Distances that keep the four-point rule give hauls that keep it", said of the two sheets
  hauls_metric : metric (instance_by s m n) ≡ true → metric (instance_by (priced_sheet (haul_by b) s) m n) ≡ true
  unfolding instance_by charged
  hauls_metric distances_metric =
      let charge = haul_charge b allowed.some allowed.proper in
      let kept = metric_rule (charged (haul_by b) (instance_by s m n)) (charge_metric (haul_by b) (instance_by s m n) charge distances_metric) in
      rule_metric (instance_by (priced_sheet (haul_by b) s) m n) (λ i k p q li lk lp lq.
      rw (haul_is i q li lq, haul_is i p li lp, haul_is k p lk lp, haul_is k q lk lq) (kept i k p q li lk lp lq))

  reach_is : question13 (last_end b) s ≡ true → (a p : ℕ) → a < m → p < n → haul s m a p ≤ last_end b
  unfolding question13 amount_within haul
  reach_is q a p la lp =
      let row : p * m + m ≤ n * m = omega (arith, mul-le-mul_right m lp) in
      omega (
        arith,
        leb-true (record_at s (place m p a)).amount (last_end b)
            (subst (λ (k : ℕ). ◌≡◌ (leb (record_at s k).amount (last_end b)) true) (omega (arith, f.yards_are))
            (all_at (amount_within s (yards s) (last_end b)) (hauls s) (p * m + a) q (omega (arith, hauls_are s, f.long, f.yards_are)))),
      )

-- an accepted sheet of distances has the form, no distance of it is past the reach, and the sheet of hauls is the priced one
pub priced_is : (b : Bands) (s h : List ℕ) → under_tariff b s ≡ accepted h
    → (c : Counts) × (form_and_loads s ≡ accepted c) × HasForm s c.yards c.farms × (question13 (last_end b) s ≡ true)
    × (priced_sheet (haul_by b) s ≡ h)
unfolding priced_by
priced_is b s h accepts =
    let formed = passed_first (form_and_loads s) (λ c. ask (question13 (last_end b) s) 13 (accepted (priced_sheet (haul_by b) s))) h accepts in
    let c = formed.0 in
    let near = asked (question13 (last_end b) s) 13 (accepted (priced_sheet (haul_by b) s)) h formed.2 in
    (c, formed.1, has_form s c.yards c.farms (loaded s c.yards c.farms formed.1).0, near.0, same_result near.1)

pub priced_hauls : (b : Bands) → Allowed b → (s h : List ℕ) → Bytes s → under_tariff b s ≡ accepted h → (c : Counts) × HaulsOf b s h c.yards c.farms
priced_hauls b allowed s h bytes accepts =
    let p = priced_is b s h accepts in
    let c = p.0 in (
      c,
      subst (λ (x : List ℕ). HaulsOf b s x c.yards c.farms) p.4
          (record {
            distances_form = p.2;
            within_reach_lem = reach_is b allowed s bytes c.yards c.farms p.2 p.3;
            hauls_charged = haul_is b allowed s bytes c.yards c.farms p.2;
            fees_kept = fee_is b allowed s bytes c.yards c.farms p.2;
            loads_kept = loads_is b allowed s bytes c.yards c.farms p.2;
            metric_kept = hauls_metric b allowed s bytes c.yards c.farms p.2;
          }),
    )

-- of a call by the house tariff
pub by_house : (tariff s h : List ℕ) → Bytes s → sheet_by HouseTariff tariff s ≡ accepted h → (c : Counts) × HaulsOf house s h c.yards c.farms
unfolding sheet_by
by_house tariff s h bytes accepts = priced_hauls house house_allowed s h bytes accepts

-- and there each haul is the one from the table of band starts (document 02, paper 6)
pub by_table : (tariff s h : List ℕ) → Bytes s → sheet_by HouseTariff tariff s ≡ accepted h
    → (c : Counts) × ((a p : ℕ) → a < c.yards → p < c.farms → haul h c.yards a p ≡ haul_from_start (haul s c.yards a p))
by_table tariff s h bytes accepts =
    let read = by_house tariff s h bytes accepts in
    (read.0, λ a p la lp. read.1.hauls_charged a p la lp ∙ sym (hauls_stay (haul s read.0.yards a p)))

-- of a call by a given tariff
pub by_given : (tariff s h : List ℕ) → Bytes tariff → Bytes s → sheet_by GivenTariff tariff s ≡ accepted h
    → (b : Bands) × (tariff_reading tariff ≡ accepted b) × (c : Counts) × HaulsOf b s h c.yards c.farms
unfolding sheet_by under_given
by_given tariff s h tariff_bytes bytes accepts =
    let read = passed_first (tariff_reading tariff) (λ b. under_tariff b s) h accepts in
    let priced = priced_hauls read.0 (read_allowed tariff tariff_bytes read.0 read.1) s h bytes read.2 in
    (read.0, read.1, priced.0, priced.1)
