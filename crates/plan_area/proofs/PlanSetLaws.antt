-- The set of a plan can be read off its records of kind 4F again.
-- Idea: take one yard. Bytes of whole records show it or not; bytes behind bytes show it where either do, and so do joins and the plan.
use Prim.Native.Nat.{ℕ, zero, suc, ◌+◌, ◌*◌, ◌/◌, ◌^◌, ◌≤◌, ◌<◌}
use native.Mathlib.Omega.{arith}
use mathlib.Core.Path.{◌≡◌, refl, ap, ap₂, subst, ◌∙◌}
use mathlib.Core.Bool.{Bool, false, ◌&&◌, ◌||◌, or-false}
use mathlib.Core.List.{List, [], ◌++◌}
use lib.Dec.{eqb}
use lib.ListN.{length, drop, length-append}
use lib.Pow.{pow_mono}
use Rattle.model.specs.Loops.{on, join}
use Rattle.model.specs.Least.{any}
use Rattle.model.specs.Sets.{member}
use Rattle.model.specs.Instance.{Instance}
use Rattle.model.proofs.Bools.{cases}
use Rattle.model.proofs.SumLaws.{sum_cong}
use Rattle.model.proofs.LeastLaws.{any_cong, any_add, any_none, any_one}
use Rattle.model.proofs.SetLaws.{member_below, member_sum}
use Rattle.record.specs.Records.{record_at, bytes_of, splice}
use Rattle.record.specs.declared.Record.{Record}
use Rattle.record.proofs.RecordLaws.{record_before, record_behind}
use Rattle.record.proofs.SpliceLaws.{length_bytes, splice_front}
use Rattle.questions.specs.Bounds.{most_yards}
use Rattle.plan_area.specs.Plan.{open_record, farm_record, total_record, moves_record, plan_bytes, opens_at, plan_set, open_kind}

-- ---- what whole records show of one yard

module _ (yard : ℕ) where
  -- the bytes are so many whole records, and is one of kind 4F for the yard among them
  record Shows (bytes : List ℕ) (shown : Bool) : Type 0 where
    records : ℕ
    whole : length bytes ≡ 8 * records
    reads : any records (opens_at bytes yard) ≡ shown

  opens_before : (xs ys : List ℕ) (i : ℕ) → 8 * i + 8 ≤ length xs → opens_at (xs ++ ys) yard i ≡ opens_at xs yard i
  unfolding opens_at
  opens_before xs ys i room = ap (λ (r : Record). eqb r.kind open_kind && eqb r.yard yard) (record_before xs ys i room)

  opens_behind : (xs ys : List ℕ) (k i : ℕ) → length xs ≡ 8 * k → opens_at (xs ++ ys) yard (k + i) ≡ opens_at ys yard i
  unfolding opens_at
  opens_behind xs ys k i e = ap (λ (r : Record). eqb r.kind open_kind && eqb r.yard yard) (record_behind xs ys k i e)

  -- the same is read with anything behind the bytes
  reads_before : (xs ys : List ℕ) (a : Bool) (x : Shows xs a) → any x.records (opens_at (xs ++ ys) yard) ≡ a
  reads_before xs ys a x =
      any_cong x.records (opens_at (xs ++ ys) yard) (opens_at xs yard) (λ i l. opens_before xs ys i (omega (arith, x.whole))) ∙ x.reads

  shows_none : Shows [] false
  unfolding any
  shows_none = record { records = 0; whole = refl; reads = refl }

  shows_record : (r : Record) → Shows (bytes_of r) (eqb r.kind open_kind && eqb r.yard yard)
  unfolding any opens_at record_at bytes_of
  shows_record r = record { records = 1; whole = length_bytes r; reads = or-false (eqb r.kind open_kind && eqb r.yard yard) }

  shows_append : (xs ys : List ℕ) (a b : Bool) → Shows xs a → Shows ys b → Shows (xs ++ ys) (b || a)
  shows_append xs ys a b x y =
      record {
        records = x.records + y.records;
        whole = omega (arith, length-append xs ys, x.whole, y.whole);
        reads =
            any_add x.records y.records (opens_at (xs ++ ys) yard)
            ∙ ap₂ ◌||◌
            (any_cong y.records (λ i. opens_at (xs ++ ys) yard (x.records + i)) (opens_at ys yard)
            (λ i l. opens_behind xs ys x.records i x.whole) ∙ y.reads)
            (reads_before xs ys a x);
      }

  shows_join : (n : ℕ) (f : ℕ → List ℕ) (S : ℕ → Bool) → ((i : ℕ) → Shows (f i) (S i)) → Shows (join n f) (any n S)
  unfolding join any
  shows_join zero f S h = shows_none
  shows_join (suc n) f S h = shows_append (join n f) (f n) (any n S) (S n) (shows_join n f S h) (h n)

  -- ---- the plan

  module _ (I : Instance) (set : ℕ) where
    shows_open : (i : ℕ) → Shows (open_record I set i) (member set i && eqb i yard)
    unfolding open_record
    shows_open i = cases (member set i) (λ e. rw e (shows_record _)) (λ e. rw e shows_none)

    shows_farm : (byte3 : ℕ → ℕ) (j : ℕ) → Shows (farm_record I byte3 set j) false
    unfolding farm_record
    shows_farm byte3 j = shows_record _

    shows_total : (total : ℕ) → Shows (total_record I set total) false
    unfolding total_record
    shows_total total = shows_record _

    shows_moves : (moves : ℕ) → Shows (moves_record moves) false
    unfolding moves_record
    shows_moves moves = shows_record _

    -- no farm's record is of kind 4F, and those that are stand for the set's members
    all_shown : set < 2 ^ I.facilities
        → any I.clients (λ j. false) || any I.facilities (λ i. member set i && eqb i yard) ≡ member set yard
    all_shown small =
        rw (any_none I.clients (λ j. false) (λ j l. refl))
        (any_one I.facilities yard (member set) (member_below I.facilities set yard small))

    shows_plan : (byte3 : ℕ → ℕ) (total moves : ℕ) → set < 2 ^ I.facilities → Shows (plan_bytes I byte3 set total moves) (member set yard)
    unfolding plan_bytes
    shows_plan byte3 total moves small =
        let opens = shows_join I.facilities (open_record I set) (λ i. member set i && eqb i yard) shows_open in
        let farms = shows_join I.clients (farm_record I byte3 set) (λ j. false) (shows_farm byte3) in
        subst (Shows (plan_bytes I byte3 set total moves)) (all_shown small)
        (shows_append _ _ _ _ (shows_append _ _ _ _ (shows_append _ _ _ _ opens farms) (shows_total total)) (shows_moves moves))

module _ (I : Instance) (byte3 : ℕ → ℕ) (set total moves : ℕ) (area : List ℕ) where
  -- a yard has a record of kind 4F in the plan where it is in the set
  pub plan_opens : (yard : ℕ) → set < 2 ^ I.facilities
      → any (length (plan_bytes I byte3 set total moves) / 8) (opens_at (splice area 0 (plan_bytes I byte3 set total moves)) yard) ≡ member set yard
  plan_opens yard small =
      let bytes = plan_bytes I byte3 set total moves in
      let shown = shows_plan yard I set byte3 total moves small in
      let count : length bytes / 8 ≡ shown.records = omega (arith, shown.whole) in
      rw (splice_front area bytes, count) (reads_before yard bytes (drop (length bytes) area) (member set yard) shown)

  pub plan_set_lem : I.facilities ≤ most_yards → set < 2 ^ I.facilities
      → plan_set (splice area 0 (plan_bytes I byte3 set total moves)) (length (plan_bytes I byte3 set total moves)) ≡ set
  unfolding plan_set
  plan_set_lem few small =
      sum_cong most_yards (λ yard l. ap (λ (b : Bool). on b (2 ^ yard)) (plan_opens yard small))
      ∙ member_sum most_yards set (omega (arith, pow_mono {i = I.facilities} {j = most_yards} few))
