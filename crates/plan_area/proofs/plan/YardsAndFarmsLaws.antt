-- Laws of the records that a plan begins with: those of the listed yards and of the farms are written, and what they come to is
-- summed on the way.
use Prim.Native.Nat.{ℕ, ◌+◌, ◌*◌, ◌≤◌, ◌<◌}
use native.Mathlib.Nat.{add-zero}
use native.Mathlib.Omega.{arith}
use mathlib.Core.Path.{◌≡◌, ap, ap₂, ◌∙◌}
use mathlib.Core.List.{List, ◌++◌, append-nil}
use lib.ListN.{length, get_or}
use Rattle.model.specs.Loops.{on, sum, join, most_term}
use Rattle.model.specs.Sets.{count, member}
use Rattle.model.specs.Instance.{nearest, opening_cost, service_cost, total_cost}
use Rattle.model.proofs.SumLaws.{Summed, summed_none, summed_more}
use Rattle.model.proofs.CountLaws.{count_le}
use Rattle.model.proofs.GapLaws.{NoneFrom, gap}
use Rattle.sets.specs.Members.{rising_below}
use Rattle.sets.proofs.MemberLaws.{Next, passed, passed_none, passed_more, listed_next, listed_last}
use Rattle.record.specs.Records.{record_of, splice}
use Rattle.questions.specs.Bounds.{most_yards}
use Rattle.questions.specs.Sheet.{fee, farm_byte, loads_of, instance_by}
use Rattle.record.proofs.SpliceLaws.{length_bytes, splice_turn}
use Rattle.plan_area.specs.Plan.{open_record, farm_record, open_kind}
use Rattle.plan_area.proofs.SheetCostLaws.{summed_same, fees_sum, hauls_sum}
use Rattle.record.proofs.WriteLaws.{PutSoFar, filled_none, filled_more, filled_same}
use Rattle.plan_area.proofs.PlanRecordLaws.{closed_record, opened_record, open_short, farm_short, farm_record_length, opens_length}

module _ (s : List ℕ) (m n set : ℕ) where
  -- ---- the listed yards

  opens_gap : (i k : ℕ) → i ≤ k → NoneFrom (member set) i k
      → join k (open_record (instance_by s m n) set) ≡ join i (open_record (instance_by s m n) set)
  unfolding join
  opens_gap i k h none =
      gap (member set) (λ j. join j (open_record (instance_by s m n) set))
      (λ j e. rw (closed_record (instance_by s m n) set j e) (append-nil (join j (open_record (instance_by s m n) set)))) i k h none

  fees_gap : (i k : ℕ) → i ≤ k → NoneFrom (member set) i k
      → sum k (λ j. on (member set j) (fee s j)) ≡ sum i (λ j. on (member set j) (fee s j))
  unfolding sum
  fees_gap i k h none =
      gap (member set) (λ j. sum j (λ j. on (member set j) (fee s j)))
      (λ j e. rw e (add-zero (sum j (λ j. on (member set j) (fee s j))))) i k h none

  -- the area and the fees after so many of the listed yards
  pub record Opened (yards area₀ area : List ℕ) (total t : ℕ) : Type 0 where
    pub written : PutSoFar (open_record (instance_by s m n) set) area₀ 0 area (8 * t) (passed yards t)
    pub summed : Summed (λ j. on (member set j) (fee s j)) total (passed yards t)

  pub opened_none : (yards area₀ : List ℕ) → Opened yards area₀ area₀ 0 0
  opened_none yards area₀ =
      record {
        written = rw (passed_none yards) (filled_none (open_record (instance_by s m n) set) area₀ 0);
        summed = rw (passed_none yards) (summed_none (λ j. on (member set j) (fee s j)));
      }

  module _ (yards area₀ : List ℕ) (e : yards ≡ rising_below m set) (room : 8 * m ≤ length area₀) where
    next : (t : ℕ) → t < length yards → Next set m (passed yards t) (get_or yards t 0)
    next = listed_next set m yards e

    -- the record of a listed yard has room
    pub open_room : (area : List ℕ) (total t : ℕ) → t < length yards → Opened yards area₀ area total t → 8 * t + 8 ≤ length area
    open_room area total t l h =
        omega (arith, h.written.few, h.written.long, (next t l).below, (next t l).rises)

    pub opened_small : (area : List ℕ) (total t : ℕ) → m ≤ most_yards → t < length yards → Opened yards area₀ area total t
        → total ≤ most_yards * most_term
    opened_small area total t few l h = omega (arith, h.summed.small, (next t l).below, (next t l).rises)

    pub opened_more : (area area' : List ℕ) (total t x : ℕ) → t < length yards → Opened yards area₀ area total t
        → x ≡ fee s (get_or yards t 0) → x ≤ most_term
        → area' ≡ splice area (8 * t) (open_record (instance_by s m n) set (get_or yards t 0))
        → Opened yards area₀ area' (total + x) (t + 1)
    opened_more area area' total t x l h ex small put =
        let i = get_or yards t 0 in
        let p = passed yards t in
        let here = next t l in
        let I = instance_by s m n in
        let long : length (open_record I set i) ≡ 8 =
        ap length (opened_record I set i here.is_in_lem) ∙ length_bytes (record_of open_kind i 0 0 (I.opening i)) in
        record {
          written =
              rw (passed_more yards t) (filled_more (open_record I set) area₀ 0 area area' (8 * t) (8 * (t + 1)) i
              (filled_same (open_record I set) area₀ 0 area (8 * t) p i here.rises (opens_gap p i here.rises here.none) h.written)
              (open_short I set i) (omega (arith, here.below)) (omega arith) put);
          summed =
              rw (passed_more yards t) (summed_more (λ j. on (member set j) (fee s j)) total i x
              (summed_same (λ j. on (member set j) (fee s j)) total p i here.rises (fees_gap p i here.rises here.none) h.summed)
              (rw here.is_in_lem ex) small);
        }

    pub opened_all : (area : List ℕ) (total t : ℕ) → t ≡ length yards → Opened yards area₀ area total t
        → (total ≡ opening_cost (instance_by s m n) (member set))
        × ((total ≤ m * most_term) × (area ≡ splice area₀ 0 (join m (open_record (instance_by s m n) set))))
    opened_all area total t done h =
        let last = listed_last set m yards e in
        let p = passed yards (length yards) in
        let g = rw done at h in
        let f : ℕ → ℕ = λ j. on (member set j) (fee s j) in
        let sums = summed_same f total p m last.within (fees_gap p m last.within last.none) g.summed in (
          sums.exact ∙ fees_sum s m n (member set),
          (
            sums.small,
            (filled_same (open_record (instance_by s m n) set) area₀ 0 area (8 * length yards) p m last.within
                (opens_gap p m last.within last.none) g.written).parts,
          ),
        )

  -- ---- the farms

  -- what a farm's loads cost
  abbrev farm_cost : ℕ → ℕ
  farm_cost j = loads_of (farm_byte s m j) * nearest (instance_by s m n) (member set) j

  -- the area and the hauls after so many farms, whose records begin at an offset
  pub record ServedSoFar (area₀ : List ℕ) (from : ℕ) (area : List ℕ) (total farm : ℕ) : Type 0 where
    pub written : PutSoFar (farm_record (instance_by s m n) (farm_byte s m) set) area₀ from area (from + 8 * farm) farm
    pub summed : Summed farm_cost total farm

  pub served_none : (area₀ : List ℕ) (from : ℕ) → ServedSoFar area₀ from area₀ 0 0
  served_none area₀ from =
      let start : from + 8 * 0 ≡ from = omega arith in
      record {
        written = rw start (filled_none (farm_record (instance_by s m n) (farm_byte s m) set) area₀ from);
        summed = summed_none farm_cost;
      }

  pub served_more : (area₀ area area' : List ℕ) (from total farm x : ℕ) → from + 8 * farm + 8 ≤ length area₀
      → ServedSoFar area₀ from area total farm → x ≡ loads_of (farm_byte s m farm) * nearest (instance_by s m n) (member set) farm → x ≤ most_term
      → area' ≡ splice area (from + 8 * farm) (farm_record (instance_by s m n) (farm_byte s m) set farm) → ServedSoFar area₀ from area' (total + x) (farm + 1)
  served_more area₀ area area' from total farm x room h ex small put =
      let I = instance_by s m n in
      record {
        written =
            filled_more (farm_record I (farm_byte s m) set) area₀ from area area' (from + 8 * farm) (from + 8 * (farm + 1)) farm h.written
            (farm_short I set (farm_byte s m) farm) room (omega (arith, farm_record_length I set (farm_byte s m) farm)) put;
        summed = summed_more farm_cost total farm x h.summed ex small;
      }

  pub served_all : (area₀ area : List ℕ) (from total farm : ℕ) → farm ≡ n → ServedSoFar area₀ from area total farm
      → (total ≡ service_cost (instance_by s m n) (member set))
      × ((total ≤ n * most_term) × (area ≡ splice area₀ from (join n (farm_record (instance_by s m n) (farm_byte s m) set))))
  served_all area₀ area from total farm done h =
      let g = rw done at h in
      (g.summed.exact ∙ hauls_sum s m n (member set), (g.summed.small, g.written.parts))

  -- ---- both

  pub total_is : (fees hauls : ℕ) → fees ≡ opening_cost (instance_by s m n) (member set) → hauls ≡ service_cost (instance_by s m n) (member set)
      → fees + hauls ≡ total_cost (instance_by s m n) (member set)
  unfolding total_cost
  total_is fees hauls e e' = ap₂ ◌+◌ e e'

  pub body_is : (area₀ area₁ area₂ : List ℕ) (opened : ℕ) → opened ≡ count m (member set) → 8 * m ≤ length area₀
      → area₁ ≡ splice area₀ 0 (join m (open_record (instance_by s m n) set))
      → area₂ ≡ splice area₁ (8 * opened) (join n (farm_record (instance_by s m n) (farm_byte s m) set))
      → area₂ ≡ splice area₀ 0 (join m (open_record (instance_by s m n) set) ++ join n (farm_record (instance_by s m n) (farm_byte s m) set))
  body_is area₀ area₁ area₂ opened e room put₁ put₂ =
      let opens = join m (open_record (instance_by s m n) set) in
      let long = opens_length (instance_by s m n) set m in
      put₂ ∙ splice_turn area₀ area₁ 0 (8 * opened) opens (join n (farm_record (instance_by s m n) (farm_byte s m) set)) put₁ (omega arith)
      (omega (arith, count_le m (member set)))
