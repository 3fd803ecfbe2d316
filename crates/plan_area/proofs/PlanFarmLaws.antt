-- Where a farm is sent can be read off its record of kind 41 again: to the nearest open yard, among equals to the one of lower fee, and
-- only then to the lower number (demand 2, and document 02's paper 1).
use Prim.Native.Nat.{ℕ, zero, suc, ◌+◌, ◌*◌, ◌≤◌, ◌<◌}
use native.Mathlib.Nat.{add-zero}
use native.Mathlib.Omega.{arith}
use mathlib.Core.Path.{◌≡◌, refl, sym, ap, ap₂, ◌∙◌}
use mathlib.Core.Logic.{inl, inr}
use mathlib.Core.Bool.{true}
use mathlib.Core.List.{List, ◌++◌}
use lib.ListN.{length, length-append}
use Rattle.model.specs.Loops.{sum, join}
use Rattle.model.specs.Least.{any}
use Rattle.model.specs.Sets.{count, member}
use Rattle.model.specs.Instance.{Instance, nearest, assigned, service_cost}
use Rattle.model.proofs.LoopLaws.{last_or}
use Rattle.model.proofs.SumLaws.{sum_cong}
use Rattle.model.proofs.LeastLaws.{any_of}
use Rattle.model.proofs.CostLaws.{Assigned, assigned_least, assigned_is, assigned_nearest}
use Rattle.record.specs.declared.Record.{Record}
use Rattle.record.specs.Records.{record_of, record_at, splice, amount_end}
use Rattle.record.proofs.RecordLaws.{record_before, record_behind, read_again}
use Rattle.record.proofs.SpliceLaws.{splice_front}
use Rattle.questions.specs.Sheet.{yards, farms, farm_byte, loads_of, instance_by, instance_of}
use Rattle.questions.proofs.AcceptedLaws.{WithinBounds}
use Rattle.questions.proofs.CostBounds.{nearest_within}
use Rattle.plan_area.specs.Plan.{farm_kind, open_record, farm_record, total_record, moves_record, plan_bytes}
use Rattle.plan_area.proofs.PlanRecordLaws.{opens_length, farms_length}

-- the record is farm j's: its yard is the assigned one of the set, its amount the haul of one load there, and byte 3 is that of the farm's loads
pub record SentTo (I : Instance) (byte3 : ℕ → ℕ) (set j : ℕ) (r : Record) : Type 0 where
  pub kind_is : r.kind ≡ farm_kind
  pub farm_is : r.farm ≡ j
  pub yard_is : Assigned I (member set) j r.yard
  pub haul_is : r.amount ≡ I.service r.yard j
  pub loads_are : r.byte3 ≡ byte3 j

module _ (I : Instance) (byte3 : ℕ → ℕ) (set : ℕ) where
  farm_at_lem : (n j : ℕ) → j < n → record_at (join n (farm_record I byte3 set)) j ≡ record_at (farm_record I byte3 set j) 0
  unfolding join
  farm_at_lem zero j l = elim l [ ]
  farm_at_lem (suc n) j l =
      elim (last_or l) [
        | inl e ↦ rw e (ap (record_at _) (sym (add-zero n)) ∙ record_behind (join n (farm_record I byte3 set)) (farm_record I byte3 set n) n 0 (farms_length I set byte3 n))
        | inr k ↦ record_before (join n (farm_record I byte3 set)) (farm_record I byte3 set n) j (omega (arith, farms_length I set byte3 n)) ∙ farm_at_lem n j k
      ]

  module _ (total moves : ℕ) (area : List ℕ) (j : ℕ) (below : j < I.clients) where
    -- farm j's record stands behind those of the open yards and of the farms before it
    told : record_at (splice area 0 (plan_bytes I byte3 set total moves)) (count I.facilities (member set) + j) ≡ record_at (farm_record I byte3 set j) 0
    unfolding plan_bytes
    told =
        let k = count I.facilities (member set) in
        let opens = join I.facilities (open_record I set) in
        let farms = join I.clients (farm_record I byte3 set) in
        let sum = total_record I set total in
        let made = moves_record moves in
        let size = opens_length I set I.facilities in
        let within : 8 * (k + j) + 8 ≤ length (opens ++ farms) = omega (arith, length-append opens farms, size, farms_length I set byte3 I.clients) in
        let before_made : 8 * (k + j) + 8 ≤ length (opens ++ farms ++ sum) = omega (arith, length-append (opens ++ farms) sum) in
        let before_rest : 8 * (k + j) + 8 ≤ length (opens ++ farms ++ sum ++ made) = omega (arith, length-append (opens ++ farms ++ sum) made) in
        ap (λ (bytes : List ℕ). record_at bytes (k + j)) (splice_front area (plan_bytes I byte3 set total moves))
        ∙ record_before (opens ++ farms ++ sum ++ made) _ (k + j) before_rest ∙ record_before (opens ++ farms ++ sum) made (k + j) before_made
        ∙ record_before (opens ++ farms) sum (k + j) within ∙ record_behind opens farms k j size ∙ farm_at_lem I.clients j below

    pub farm_sent : any I.facilities (member set) ≡ true → nearest I (member set) j < amount_end
        → SentTo I byte3 set j (record_at (splice area 0 (plan_bytes I byte3 set total moves)) (count I.facilities (member set) + j))
    unfolding farm_record
    farm_sent some fits =
        let r = record_of farm_kind (assigned I (member set) j) j (byte3 j) (nearest I (member set) j) in
        rw (told ∙ read_again r fits) (record {
          kind_is = refl;
          farm_is = refl;
          yard_is = assigned_least I (member set) j some;
          haul_is = sym (assigned_nearest I (member set) j some);
          loads_are = refl;
        })

-- ---- on an accepted sheet

-- each farm's record in the area, behind those of the set's yards
abbrev pub farm_at : List ℕ → List ℕ → ℕ → ℕ → Record
farm_at s area set j = record_at area (count (instance_of s).facilities (member set) + j)

abbrev pub FarmsSent : List ℕ → List ℕ → ℕ → Type 0
FarmsSent s area set = (j : ℕ) → j < (instance_of s).clients → SentTo (instance_of s) (farm_byte s (yards s)) set j (farm_at s area set j)

pub farms_sent : (s : List ℕ) → WithinBounds (instance_of s) → (set total moves : ℕ) → any (instance_of s).facilities (member set) ≡ true
    → (area next : List ℕ) → next ≡ splice area 0 (plan_bytes (instance_of s) (farm_byte s (yards s)) set total moves) → FarmsSent s next set
farms_sent s w set total moves some area next e j l =
    rw e (farm_sent (instance_of s) (farm_byte s (yards s)) set total moves area j l some (omega (arith, nearest_within (instance_of s) w (member set) j l)))

-- so the loads in the records, times the hauls in them, come to the haul cost of the set
pub hauls_add_up : (s area : List ℕ) (set : ℕ) → FarmsSent s area set
    → sum (instance_of s).clients (λ j. loads_of (farm_at s area set j).byte3 * (farm_at s area set j).amount) ≡ service_cost (instance_of s) (member set)
unfolding service_cost instance_of instance_by
hauls_add_up s area set sent =
    sum_cong (farms s) (λ j l.
    let r = sent j l in
    let I = instance_of s in
    let some = any_of I.facilities (farm_at s area set j).yard (member set) r.yard_is.below r.yard_is.is_in_lem in
    let near = ap (λ (i : ℕ). I.service i j) (sym (assigned_is I (member set) j (farm_at s area set j).yard r.yard_is))
    ∙ assigned_nearest I (member set) j some in
    ap₂ ◌*◌ (ap loads_of r.loads_are) (r.haul_is ∙ near))
