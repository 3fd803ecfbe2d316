-- The floor under limited lists by the house tariff, on paper 3's example: one farm at a distance of 120 from the only yard. On the copy with a fee of 0 an offer of 4,680
-- is accepted, so that no single yard hauls for less than 4,680.
use Prim.Native.Nat.{ℕ, zero, suc, ◌+◌, ◌-◌, ◌≤◌, ◌<◌}
use native.Mathlib.Omega.{arith}
use mathlib.Core.Path.{◌≡◌, refl, sym, ◌∙◌}
use mathlib.Core.Bool.{Bool, true, ◌&&◌}
use mathlib.Core.List.{List, [], ◌∷◌}
use borrow.Author.Tests.{ltb-true}
use lib.Dec.{ltb}
use lib.ListN.{take, drop}
use Rattle.model.specs.Loops.{all_below, leading, sum, join}
use Rattle.model.specs.Least.{any}
use Rattle.model.specs.Sets.{count}
use Rattle.model.specs.Instance.{service_cost, metric, four_point_bpq, four_point_pq, four_point_q, four_point}
use Rattle.model.specs.Floor.{excess_at, within_at, feasible, floor}
use Rattle.model.specs.Answers.{accepted}
use Rattle.model.proofs.Bools.{and_left, and_right}
use Rattle.record.specs.Records.{record_of, record_at, amount_at, bytes_of}
use Rattle.record.proofs.RecordLaws.{Bytes, record_behind}
use Rattle.questions.specs.Bounds.{yard_kind}
use Rattle.questions.specs.Sheet.{is_yard, yards, hauls, farms, fee, haul, loads_byte, instance_of, instance_by}
use Rattle.questions.specs.Questions.{question1, question2, well_formed, well_formed_at, question3, numbered, no_yard_after, question4, haul_in_place, farm_in_place, question10, haul_loaded, farm_loaded, question5, amount_within, question6}
use Rattle.questions.specs.Reading.{counts, form, form_and_loads, reading}
use Rattle.tariff.specs.Bands.{inside, charge, haul_by, last_end}
use Rattle.tariff.specs.declared.TariffChoice.TheVariants.{HouseTariff}
use Rattle.distances.specs.Priced.{priced_record, priced_at, priced_sheet, question13, priced_by, sheet_by}
use Rattle.floor.specs.Offering.{is_offer, offer_in_place, question15, question16, offering, WithFees}
use Rattle.floor_by.specs.OfferingBy.{offering_by}
use Rattle.floor_by.proofs.LimitedByLaws.{under_limited_by}
use Rattle.cases.proofs.CaseBytes.{yard, haul_to, one_distance, offer}

-- fee 7 and a distance of 120; the same with a fee of 0; and the sheet of hauls
abbrev far : List ℕ
far = one_distance 7 0 120

abbrev copy : List ℕ
copy = one_distance 0 0 120

-- what the house tariff charges for the distance
abbrev charged : ℕ
charged = 4680

abbrev priced : List ℕ
priced = one_distance 7 0 charged

-- ---- bytes by a test

small_bytes : List ℕ → Bool
small_bytes [] = true
small_bytes (x ∷ xs) = ltb x 256 && small_bytes xs

bytes_from : (s : List ℕ) → small_bytes s ≡ true → Bytes s
unfolding small_bytes
bytes_from [] h i = omega arith
bytes_from (x ∷ xs) h zero = ltb-true x 256 (and_left (ltb x 256) _ h)
bytes_from (x ∷ xs) h (suc i) = bytes_from xs (and_right (ltb x 256) _ h) i

sheet_bytes : Bytes far
unfolding one_distance yard haul_to bytes_of small_bytes
sheet_bytes = bytes_from far refl

copy_bytes : Bytes copy
unfolding one_distance yard haul_to bytes_of small_bytes
copy_bytes = bytes_from copy refl

no_bytes : Bytes []
no_bytes i = omega arith

-- ---- the sheet of hauls, and the offer on the copy

hauls_are : sheet_by HouseTariff [] far ≡ accepted priced
unfolding one_distance yard haul_to bytes_of record_at well_formed form_and_loads form question1 question2 well_formed_at question3 numbered no_yard_after question4 haul_in_place farm_in_place question10 haul_loaded farm_loaded amount_within is_yard yards hauls farms loads_byte all_below leading sum join inside charge haul_by last_end priced_record priced_at priced_sheet question13 priced_by sheet_by
hauls_are = refl

read_hauls : reading priced ≡ accepted (counts 1 1)
unfolding one_distance yard haul_to bytes_of record_at well_formed reading form_and_loads form question1 question2 well_formed_at question3 numbered no_yard_after question4 haul_in_place farm_in_place question10 haul_loaded farm_loaded question5 amount_within question6 is_yard yards hauls farms fee haul loads_byte instance_of instance_by all_below leading metric four_point_bpq four_point_pq four_point_q four_point
read_hauls = refl

accepted_on_copy : offering_by HouseTariff [] copy (offer 0 charged) ≡ accepted charged
unfolding one_distance yard haul_to offer bytes_of record_at amount_at well_formed reading form_and_loads form question1 question2 well_formed_at question3 numbered no_yard_after question4 haul_in_place farm_in_place question10 haul_loaded farm_loaded question5 amount_within question6 is_yard yards hauls farms fee haul loads_byte instance_of instance_by all_below leading sum join metric four_point_bpq four_point_pq four_point_q four_point inside charge haul_by last_end priced_record priced_at priced_sheet question13 priced_by sheet_by excess_at within_at feasible floor is_offer offer_in_place question15 question16 offering offering_by
accepted_on_copy = refl

one : yards far ≡ 1
unfolding one_distance yard haul_to bytes_of record_at is_yard yards leading
one = refl

-- the copy differs in its fee alone
copied_fee : (i : ℕ) → i < 1 → record_at copy i ≡ record_of yard_kind i 0 0 0
unfolding one_distance yard haul_to bytes_of record_at
copied_fee zero l = refl
copied_fee (suc i) l = absurd (omega arith)

copy_is : WithFees 0 far copy
unfolding one_distance yard haul_to bytes_of
copy_is =
    record {
      as_long = refl;
      yard_records = λ i l. copied_fee i (omega (arith, one));
      other_records = λ i above l. behind i (omega (arith, one));
    }
  where
    -- the record behind the fee
    rest : List ℕ
    rest = drop 8 far

    behind : (i : ℕ) → 1 ≤ i → record_at copy i ≡ record_at far i
    behind i above =
        let e : 1 + (i - 1) ≡ i = omega arith in
        let same : record_at copy (1 + (i - 1)) ≡ record_at far (1 + (i - 1)) =
        record_behind (take 8 copy) rest 1 (i - 1) refl ∙ sym (record_behind (take 8 far) rest 1 (i - 1) refl) in
        rw e at same

-- "hauls of any non-empty set of at most k yards", by the house tariff, for k = 1
pub one_yard_by : (rival : ℕ → Bool) → any (yards priced) rival ≡ true → count (yards priced) rival ≤ 1
    → charged ≤ service_cost (instance_of priced) rival
one_yard_by rival some few =
    omega (arith, under_limited_by 0 far copy copy_is sheet_bytes copy_bytes HouseTariff [] no_bytes priced hauls_are 1 1 read_hauls (offer 0 charged) charged accepted_on_copy 1 rival some few)
