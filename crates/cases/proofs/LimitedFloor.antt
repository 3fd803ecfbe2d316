-- The floor under limited lists on sheet S (document 02, paper 10): on the copy with every fee set to 4 offers of 3, 5 and 5 are accepted with 13, so that no single yard
-- hauls for less than 9, which is what the limited plan for one yard hauls for.
use Prim.Native.Nat.{ℕ, zero, suc, ◌+◌, ◌-◌, ◌≤◌, ◌<◌}
use native.Mathlib.Omega.{arith}
use mathlib.Core.Path.{◌≡◌, refl, sym, ◌∙◌}
use mathlib.Core.Bool.{Bool, true}
use mathlib.Core.List.{List}
use lib.ListN.{take, drop}
use Rattle.model.specs.Loops.{all_below, leading, sum}
use Rattle.model.specs.Least.{any}
use Rattle.model.specs.Sets.{count}
use Rattle.model.specs.Instance.{service_cost, metric, four_point_bpq, four_point_pq, four_point_q, four_point}
use Rattle.model.specs.Floor.{excess_at, within_at, feasible, floor}
use Rattle.model.specs.Answers.{accepted}
use Rattle.record.specs.Records.{record_of, record_at, amount_at, bytes_of}
use Rattle.record.proofs.RecordLaws.{record_behind}
use Rattle.questions.specs.Bounds.{yard_kind}
use Rattle.questions.specs.Sheet.{is_yard, yards, hauls, farms, fee, haul, loads_byte, instance_of, instance_by}
use Rattle.questions.specs.Questions.{question1, question2, well_formed, well_formed_at, question3, numbered, no_yard_after, question4, haul_in_place, farm_in_place, question10, haul_loaded, farm_loaded, question5, amount_within, question6}
use Rattle.questions.specs.Reading.{counts, form, form_and_loads, reading}
use Rattle.floor.specs.Offering.{is_offer, offer_in_place, question15, question16, offering, WithFees}
use Rattle.floor.proofs.LimitedLaws.{under_limited}
use Rattle.cases.proofs.CaseBytes.{yard, haul_to, with_fees, loaded, sheet_s, offer, offered}

-- S with every fee set to 4
copy : List ℕ
copy = with_fees 4 4 4 0 0 0

read_s : reading sheet_s ≡ accepted (counts 3 3)
unfolding sheet_s loaded with_fees yard haul_to bytes_of record_at well_formed reading form_and_loads form question1 question2 well_formed_at question3 numbered no_yard_after question4 haul_in_place farm_in_place question10 haul_loaded farm_loaded question5 amount_within question6 is_yard yards hauls farms fee haul loads_byte instance_of instance_by all_below leading metric four_point_bpq four_point_pq four_point_q four_point
read_s = refl

three_yards : yards sheet_s ≡ 3
unfolding sheet_s loaded with_fees yard haul_to bytes_of record_at is_yard yards leading
three_yards = refl

accepted_on_copy : offering copy (offered 3 5 5) ≡ accepted 13
unfolding copy with_fees yard haul_to offer offered bytes_of record_at amount_at well_formed reading form_and_loads form question1 question2 well_formed_at question3 numbered no_yard_after question4 haul_in_place farm_in_place question10 haul_loaded farm_loaded question5 amount_within question6 is_yard yards hauls farms fee haul loads_byte instance_of instance_by all_below leading sum metric four_point_bpq four_point_pq four_point_q four_point excess_at within_at feasible floor is_offer offer_in_place question15 question16 offering
accepted_on_copy = refl

-- the copy differs from S in its fees alone
copied_fees : (i : ℕ) → i < 3 → record_at copy i ≡ record_of yard_kind i 0 0 4
unfolding copy with_fees yard haul_to bytes_of record_at
copied_fees zero l = refl
copied_fees (suc zero) l = refl
copied_fees (suc (suc zero)) l = refl
copied_fees (suc (suc (suc i))) l = absurd (omega arith)

copy_is : WithFees 4 sheet_s copy
unfolding copy sheet_s loaded with_fees yard haul_to bytes_of
copy_is =
    record {
      as_long = refl;
      yard_records = λ i l. copied_fees i (omega (arith, three_yards));
      other_records = λ i above l. behind i (omega (arith, three_yards));
    }
  where
    -- the records behind the fees
    rest : List ℕ
    rest = drop 24 sheet_s

    behind : (i : ℕ) → 3 ≤ i → record_at copy i ≡ record_at sheet_s i
    behind i above =
        let e : 3 + (i - 3) ≡ i = omega arith in
        let same : record_at copy (3 + (i - 3)) ≡ record_at sheet_s (3 + (i - 3)) =
        record_behind (take 24 copy) rest 3 (i - 3) refl ∙ sym (record_behind (take 24 sheet_s) rest 3 (i - 3) refl) in
        rw e at same

-- "hauls of any non-empty set of at most k yards", for k = 1: 13 less 4
pub one_yard : (rival : ℕ → Bool) → any (yards sheet_s) rival ≡ true → count (yards sheet_s) rival ≤ 1 → 9 ≤ service_cost (instance_of sheet_s) rival
one_yard rival some few = omega (arith, under_limited 4 sheet_s copy copy_is 3 3 read_s (offered 3 5 5) 13 accepted_on_copy 1 rival some few)
