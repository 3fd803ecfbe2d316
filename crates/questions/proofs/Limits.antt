-- Document 01's numbers in questions 1 to 5 and paper 2's in 10, computed from the definitions: the last that each accepts, and the next, which it refuses.
use Prim.Native.Nat.{ℕ, ◌*◌}
use mathlib.Core.Path.{◌≡◌, refl}
use mathlib.Core.Bool.{true, false, ◌&&◌}
use mathlib.Core.List.{List, ◌++◌}
use lib.ListN.{length}
use Rattle.model.specs.Loops.{all_below, leading}
use Rattle.model.proofs.Bools.{eqb_self}
use Rattle.model.specs.Instance.{metric, four_point_bpq, four_point_pq, four_point_q, four_point}
use Rattle.record.specs.Records.{record_of, record_at, bytes_of}
use Rattle.model.specs.Answers.{accepted, refused}
use Rattle.questions.specs.Sheet.{is_yard, yards, hauls, farms, haul, loads_byte, loads_of, instance_of, instance_by}
use Rattle.questions.specs.Questions.{question1, question2, well_formed, well_formed_at, question3, numbered, no_yard_after, question4, haul_in_place, farm_in_place, question10, haul_loaded, farm_loaded, question5, amount_within, question6}
use Rattle.questions.specs.Reading.{counts, form, form_and_loads, reading}

-- ---- 1: a multiple of 8, from 16 to 33,024 bytes

module _ (s : List ℕ) where
  pub shortest : (length s ≡ 16 → question1 s ≡ true) × (length s ≡ 8 → question1 s ≡ false)
  unfolding question1
  shortest = (λ e. rw e, λ e. rw e)

  pub longest : (length s ≡ 33024 → question1 s ≡ true) × (length s ≡ 33032 → question1 s ≡ false)
  unfolding question1
  longest = (λ e. rw e, λ e. rw e)

  pub whole_records_alone : length s ≡ 17 → question1 s ≡ false
  unfolding question1
  whole_records_alone e = rw e

  -- ---- 3: 1 to 32 yards; what is asked besides is that they are numbered and that none comes after them

  pub most_yards_lem : (yards s ≡ 32 → question3 s ≡ (all_below 32 (numbered s) && all_below (hauls s) (no_yard_after s 32)))
      × (yards s ≡ 33 → question3 s ≡ false)
  unfolding question3
  most_yards_lem = (λ e. rw e, λ e. rw e)

  pub fewest_yards : (yards s ≡ 1 → question3 s ≡ (all_below 1 (numbered s) && all_below (hauls s) (no_yard_after s 1)))
      × (yards s ≡ 0 → question3 s ≡ false)
  unfolding question3
  fewest_yards = (λ e. rw e, λ e. rw e)

  -- ---- 4: 1 to 128 farms; what is asked besides is that no haul record is left over and that each is in its place

  pub most_farms_lem : (farms s ≡ 128 → hauls s ≡ 128 * yards s → question4 s ≡ all_below 128 (farm_in_place s (yards s)))
      × (farms s ≡ 129 → hauls s ≡ 129 * yards s → question4 s ≡ false)
  unfolding question4
  most_farms_lem = (λ e h. rw (e, h, eqb_self (128 * yards s)), λ e h. rw (e, h, eqb_self (129 * yards s)))

  pub fewest_farms : (farms s ≡ 1 → hauls s ≡ 1 * yards s → question4 s ≡ all_below 1 (farm_in_place s (yards s)))
      × (farms s ≡ 0 → hauls s ≡ 0 * yards s → question4 s ≡ false)
  unfolding question4
  fewest_farms = (λ e h. rw (e, h, eqb_self (1 * yards s)), λ e h. rw (e, h, eqb_self (0 * yards s)))

-- ---- 2 and 5, on sheets of one yard and one farm: the kinds and zeros of the records, a fee of 50,000,000, a haul of 1,000,000

-- the kind, byte 2, byte 3 and the fee of the yard record; the kind, byte 3 and the haul of the haul record
unfoldable pub smallest : ℕ → ℕ → ℕ → ℕ → ℕ → ℕ → ℕ → List ℕ
smallest kind byte2 byte3 fee kind' byte3' haul = bytes_of (record_of kind 0 byte2 byte3 fee) ++ bytes_of (record_of kind' 0 0 byte3' haul)

pub good_records : (reading (smallest 0x59 0 0 50000000 0x48 0 1000000) ≡ accepted (counts 1 1))
    × (reading (smallest 0x59 0 0 0 0x48 0 0) ≡ accepted (counts 1 1))
unfolding smallest bytes_of record_at well_formed reading form_and_loads form question1 question2 well_formed_at question3 numbered no_yard_after question4 haul_in_place farm_in_place question10 haul_loaded farm_loaded loads_byte question5 amount_within question6 is_yard yards hauls farms haul instance_of instance_by all_below leading metric four_point_bpq four_point_pq four_point_q four_point
good_records = (refl, refl)

pub ill_formed : (reading (smallest 0x5A 0 0 0 0x48 0 0) ≡ refused 2) × (reading (smallest 0x59 0 0 0 0x49 0 0) ≡ refused 2)
    × (reading (smallest 0x59 1 0 0 0x48 0 0) ≡ refused 2) × (reading (smallest 0x59 0 1 0 0x48 0 0) ≡ refused 2)
unfolding smallest bytes_of record_at well_formed reading form_and_loads form question1 question2 well_formed_at all_below
ill_formed = (refl, refl, refl, refl)

pub too_dear : (reading (smallest 0x59 0 0 50000001 0x48 0 1000000) ≡ refused 5) × (reading (smallest 0x59 0 0 50000000 0x48 0 1000001) ≡ refused 5)
unfolding smallest bytes_of record_at well_formed reading form_and_loads form question1 question2 well_formed_at question3 numbered no_yard_after question4 haul_in_place farm_in_place question10 haul_loaded farm_loaded loads_byte question5 amount_within is_yard yards hauls farms all_below leading
too_dear = (refl, refl)

-- ---- 10: loads of 20, and the same byte in all of a farm's records; before 5

-- one yard and one farm whose byte is this
pub most_loads_lem : (reading (smallest 0x59 0 0 0 0x48 20 0) ≡ accepted (counts 1 1)) × (reading (smallest 0x59 0 0 0 0x48 21 0) ≡ refused 10)
    × (reading (smallest 0x59 0 0 50000001 0x48 21 0) ≡ refused 10)
unfolding smallest bytes_of record_at well_formed reading form_and_loads form question1 question2 well_formed_at question3 numbered no_yard_after question4 haul_in_place farm_in_place question10 haul_loaded farm_loaded loads_byte question5 amount_within question6 is_yard yards hauls farms haul instance_of instance_by all_below leading metric four_point_bpq four_point_pq four_point_q four_point
most_loads_lem = (refl, refl, refl)

-- two yards and one farm, whose records have these bytes
unfoldable pub two_records : ℕ → ℕ → List ℕ
two_records a b =
    bytes_of (record_of 0x59 0 0 0 0) ++ bytes_of (record_of 0x59 1 0 0 0) ++ bytes_of (record_of 0x48 0 0 a 0) ++ bytes_of (record_of 0x48 1 0 b 0)

pub same_bytes : (reading (two_records 7 7) ≡ accepted (counts 2 1)) × (reading (two_records 7 8) ≡ refused 10)
    × (reading (two_records 0 1) ≡ refused 10) × (reading (two_records 1 0) ≡ refused 10)
unfolding two_records bytes_of record_at well_formed reading form_and_loads form question1 question2 well_formed_at question3 numbered no_yard_after question4 haul_in_place farm_in_place question10 haul_loaded farm_loaded loads_byte question5 amount_within question6 is_yard yards hauls farms haul instance_of instance_by all_below leading metric four_point_bpq four_point_pq four_point_q four_point
same_bytes = (refl, refl, refl, refl)

-- "0 read as 1"
pub loads_read : (loads_of 0 ≡ 1) × (loads_of 1 ≡ 1) × (loads_of 20 ≡ 20)
loads_read = (refl, refl, refl)
