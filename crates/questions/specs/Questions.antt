-- The questions put to a sheet (document 01, "Questions put to a call", and document 02, paper 2), in their order.
use Rattle.std.specs.Prelude.{ℕ, ◌+◌, ◌*◌, ◌%◌, Bool, cond, ◌&&◌, not, List, length, eqb, leb}
use Rattle.model.specs.Loops.{all_below}
use Rattle.model.specs.Instance.{metric}
use Rattle.record.specs.declared.Record.{Record}
use Rattle.record.specs.Records.{records, record_at}
use Rattle.questions.specs.Bounds.{yard_kind, haul_kind, least_bytes, most_bytes, most_yards, most_farms, most_loads, most_fee, most_haul}
use Rattle.questions.specs.Sheet.{is_yard, yards, hauls, farms, place, loads_byte, farm_byte, instance_of}

-- 1. Is the length a multiple of 8, from 16 to 33,024 bytes?
unfoldable pub question1 : List ℕ → Bool
question1 s = eqb (length s % 8) 0 && (leb least_bytes (length s) && leb (length s) most_bytes)

-- 2. Is every kind 59 or 48 hex, every byte 3 zero, and byte 2 zero in every yard record? Paper 2: "question 2 no longer tests byte 3 of
-- hauls."
unfoldable pub well_formed : Record → Bool
well_formed r = cond (eqb r.kind yard_kind) (eqb r.farm 0 && eqb r.byte3 0) (eqb r.kind haul_kind)

unfoldable pub well_formed_at : List ℕ → ℕ → Bool
well_formed_at s i = well_formed (record_at s i)

unfoldable pub question2 : List ℕ → Bool
question2 s = all_below (records s) (well_formed_at s)

-- 3. Do 1 to 32 yard records stand first, numbered from 0 in order, with none after them?
unfoldable pub numbered : List ℕ → ℕ → Bool
numbered s i = eqb (record_at s i).yard i

unfoldable pub no_yard_after : List ℕ → ℕ → ℕ → Bool
no_yard_after s m i = not (is_yard s (m + i))

unfoldable pub question3 : List ℕ → Bool
question3 s =
    (leb 1 (yards s) && leb (yards s) most_yards)
    && (all_below (yards s) (numbered s) && all_below (hauls s) (no_yard_after s (yards s)))

-- 4. Is the count of haul records m times n with n from 1 to 128, each with the yard and farm number of its place?
unfoldable pub haul_in_place : List ℕ → ℕ → ℕ → ℕ → Bool
haul_in_place s m p a = eqb (record_at s (place m p a)).yard a && eqb (record_at s (place m p a)).farm p

unfoldable pub farm_in_place : List ℕ → ℕ → ℕ → Bool
farm_in_place s m p = all_below m (haul_in_place s m p)

unfoldable pub question4 : List ℕ → Bool
question4 s =
    (eqb (hauls s) (farms s * yards s) && (leb 1 (farms s) && leb (farms s) most_farms))
    && all_below (farms s) (farm_in_place s (yards s))

-- 10, after question 4 (paper 2). Is byte 3 of every haul record at most 20, and the same in all of a farm's records?
unfoldable pub haul_loaded : List ℕ → ℕ → ℕ → ℕ → Bool
haul_loaded s m p a = eqb (loads_byte s m a p) (farm_byte s m p) && leb (loads_byte s m a p) most_loads

unfoldable pub farm_loaded : List ℕ → ℕ → ℕ → Bool
farm_loaded s m p = all_below m (haul_loaded s m p)

unfoldable pub question10 : List ℕ → Bool
question10 s = all_below (farms s) (farm_loaded s (yards s))

-- 5. Is every fee at most 50,000,000 and every haul at most 1,000,000?
unfoldable pub amount_within : List ℕ → ℕ → ℕ → ℕ → Bool
amount_within s from most i = leb (record_at s (from + i)).amount most

unfoldable pub question5 : List ℕ → Bool
question5 s = all_below (yards s) (amount_within s 0 most_fee) && all_below (hauls s) (amount_within s (yards s) most_haul)

-- 6. Four-point rule: for all yards a, b and all farms p, q, is haul(a, q) at most haul(a, p) + haul(b, p) + haul(b, q)?
unfoldable pub question6 : List ℕ → Bool
question6 s = metric (instance_of s)
