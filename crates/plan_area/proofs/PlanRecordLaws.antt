-- Laws of a plan's records: what each is on a sheet, how long the parts are, when a plan is written at all, and by what writes.
use Prim.Native.Nat.{ℕ, zero, suc, ◌+◌, ◌*◌, ◌≤◌, ◌<◌}
use native.Mathlib.Omega.{arith}
use mathlib.Core.Path.{◌≡◌, refl, sym, ap, ap₂, ◌∙◌}
use mathlib.Core.Bool.{Bool, true, false, ◌&&◌}
use mathlib.Core.List.{List, [], ◌++◌, append_assoc}
use borrow.Author.Tests.{le-leb, lt-leb, leb-true}
use lib.ListN.{length, length-append}
use lib.Dec.{leb}
use Rattle.model.specs.Loops.{on, sum, join}
use Rattle.model.specs.Sets.{count, member}
use Rattle.model.specs.Instance.{Instance, nearest, assigned, total_cost}
use Rattle.model.proofs.Bools.{cases, and_left, and_right}
use Rattle.model.proofs.SumLaws.{on_le}
use Rattle.model.proofs.CountLaws.{count_le}
use Rattle.model.proofs.PlaceLaws.{few_places}
use Rattle.record.specs.Records.{record_of, bytes_of, splice}
use Rattle.questions.specs.Bounds.{most_yards, most_farms}
use Rattle.questions.specs.Sheet.{fee, farm_byte, loads_of, instance_by}
use Rattle.questions.specs.Shape.{Shape}
use Rattle.stretch.specs.Stretch.{stretch}
use Rattle.record.proofs.SpliceLaws.{length_bytes, splice_turn}
use Rattle.nearest.specs.Nearest.{Nearest}
use Rattle.plan_area.specs.declared.plan.Total.{Total}
use Rattle.nearest.specs.Nearest.{nearest_on}
use Rattle.plan_area.specs.Plan.{open_record, farm_record, total_record, moves_record, plan_bytes, total_amount, question9, plan_fits, writing, open_kind, farm_kind, total_kind, moves_kind}
use Rattle.plan_area.proofs.FarmNearestLaws.{farm_haul, farm_yard, farm_yard_small}

-- ---- the parts

module _ (I : Instance) (set : ℕ) where
  pub closed_record : (i : ℕ) → member set i ≡ false → open_record I set i ≡ []
  unfolding open_record
  closed_record i e = rw e

  pub opened_record : (i : ℕ) → member set i ≡ true → open_record I set i ≡ bytes_of (record_of open_kind i 0 0 (I.opening i))
  unfolding open_record
  opened_record i e = rw e

  open_length : (i : ℕ) → length (open_record I set i) ≡ 8 * on (member set i) 1
  open_length i =
      cases (member set i)
      (λ e. ap length (opened_record i e) ∙ length_bytes (record_of open_kind i 0 0 (I.opening i)) ∙ ap (λ (b : Bool). 8 * on b 1) (sym e))
      (λ e. ap length (closed_record i e) ∙ ap (λ (b : Bool). 8 * on b 1) (sym e))

  pub open_short : (i : ℕ) → length (open_record I set i) ≤ 8
  open_short i = omega (arith, open_length i, on_le (member set i) 1)

  pub opens_length : (m : ℕ) → length (join m (open_record I set)) ≡ 8 * count m (member set)
  unfolding join sum
  opens_length zero = refl
  opens_length (suc m) =
      omega (arith, length-append (join m (open_record I set)) (open_record I set m), opens_length m, open_length m)

  module _ (byte3 : ℕ → ℕ) where
    pub farm_record_length : (j : ℕ) → length (farm_record I byte3 set j) ≡ 8
    unfolding farm_record
    farm_record_length j = length_bytes (record_of farm_kind (assigned I (member set) j) j (byte3 j) (nearest I (member set) j))

    pub farm_short : (j : ℕ) → length (farm_record I byte3 set j) ≤ 8
    farm_short j = omega (arith, farm_record_length j)

    pub farms_length : (n : ℕ) → length (join n (farm_record I byte3 set)) ≡ 8 * n
    unfolding join
    farms_length zero = refl
    farms_length (suc n) =
        omega (arith, length-append (join n (farm_record I byte3 set)) (farm_record I byte3 set n), farms_length n, farm_record_length n)

-- ---- the parts of a sheet's plan

module _ (s : List ℕ) (m n set : ℕ) where
  -- an open yard's record has its fee
  pub open_with : (i : ℕ) → member set i ≡ true → (amount : ℕ) → amount ≡ fee s i
      → open_record (instance_by s m n) set i ≡ bytes_of (record_of open_kind i 0 0 amount)
  unfolding instance_by
  open_with i e amount h = opened_record (instance_by s m n) set i e ∙ ap (λ (x : ℕ). bytes_of (record_of open_kind i 0 0 x)) (sym h)

  -- a farm's record has the yard and the haul that are nearest on the farm's stretch, and the byte of its loads
  pub farm_on : Shape s m n → (p : ℕ) → p < n → (hauls : List ℕ) (r : Nearest) → hauls ≡ stretch s m p → r ≡ nearest_on s hauls set
      → (r.haul ≡ nearest (instance_by s m n) (member set) p)
      × (farm_record (instance_by s m n) (farm_byte s m) set p ≡ bytes_of (record_of farm_kind r.yard p (farm_byte s m p) r.haul)) × (r.yard ≤ most_yards)
  unfolding farm_record
  farm_on shape p l hauls r part e =
      rw (e, part) (
        farm_haul s m n p shape l (member set),
        rw (farm_yard s m n p shape l (member set), farm_haul s m n p shape l (member set)),
        farm_yard_small s m n p shape l (member set),
      )

  -- what a farm's loads cost, and its record, by the nearest yard on the stretch and the byte of its loads
  pub farm_from_lem : Shape s m n → (p : ℕ) → p < n → (hauls : List ℕ) (near : Nearest) (byte loads : ℕ)
      → hauls ≡ stretch s m p → near ≡ nearest_on s hauls set → byte ≡ farm_byte s m p → loads ≡ loads_of byte
      → (loads * near.haul ≡ loads_of (farm_byte s m p) * nearest (instance_by s m n) (member set) p)
      × (bytes_of (record_of farm_kind near.yard p byte near.haul) ≡ farm_record (instance_by s m n) (farm_byte s m) set p)
  farm_from_lem shape p l hauls near byte loads part e repeated told =
      let is = farm_on shape p l hauls near part e in
      (ap₂ ◌*◌ (told ∙ ap loads_of repeated) is.0, rw repeated (sym is.1))

  -- the yards' records, the farms' and the last two
  pub plan_parts : (total moves : ℕ) → plan_bytes (instance_by s m n) (farm_byte s m) set total moves
      ≡ join m (open_record (instance_by s m n) set) ++ join n (farm_record (instance_by s m n) (farm_byte s m) set)
      ++ (bytes_of (record_of total_kind (count m (member set)) n 0 total) ++ moves_record moves)
  unfolding instance_by plan_bytes total_record
  plan_parts total moves =
      append_assoc (join m (open_record (instance_by s m n) set) ++ join n (farm_record (instance_by s m n) (farm_byte s m) set))
      (bytes_of (record_of total_kind (count m (member set)) n 0 total)) (moves_record moves)

moves_length : (moves : ℕ) → length (moves_record moves) ≡ 8
unfolding moves_record
moves_length moves = length_bytes (record_of moves_kind 0 0 0 moves)

pub end_length : (yards farms total moves : ℕ) → length (bytes_of (record_of total_kind yards farms 0 total) ++ moves_record moves) ≡ 16
end_length yards farms total moves =
    length-append (bytes_of (record_of total_kind yards farms 0 total)) (moves_record moves)
    ∙ omega (arith, length_bytes (record_of total_kind yards farms 0 total), moves_length moves)

pub plan_length : (I : Instance) (byte3 : ℕ → ℕ) (set total moves : ℕ)
    → length (plan_bytes I byte3 set total moves) ≡ 8 * (count I.facilities (member set) + I.clients + 2)
unfolding plan_bytes total_record
plan_length I byte3 set total moves =
    let opens = join I.facilities (open_record I set) in
    let farms = join I.clients (farm_record I byte3 set) in
    let total_record_lem = bytes_of (record_of total_kind (count I.facilities (member set)) I.clients 0 total) in
    omega (
      arith,
      length-append (opens ++ farms ++ total_record_lem) (moves_record moves),
      length-append (opens ++ farms) total_record_lem,
      length-append opens farms,
      opens_length I set I.facilities,
      farms_length I set byte3 I.clients,
      length_bytes (record_of total_kind (count I.facilities (member set)) I.clients 0 total),
      moves_length moves,
    )

-- ---- question 9

module _ (m n room : ℕ) where
  -- within the bounds it is question 9
  pub fits_within : 1 ≤ m → m ≤ most_yards → n ≤ most_farms → plan_fits m n room ≡ question9 m n room
  unfolding plan_fits
  fits_within e f g = rw (le-leb 1 m e, le-leb m most_yards f, le-leb n most_farms g)

  -- what an area that the plan fits has
  pub record Fits : Type 0 where
    pub some_yards : 1 ≤ m
    pub few_yards : m ≤ most_yards
    pub few_farms : n ≤ most_farms
    pub enough : 8 * (m + n + 2) ≤ room

  pub fits_says : plan_fits m n room ≡ true → Fits
  unfolding plan_fits question9
  fits_says h =
      let rest = leb n most_farms && question9 m n room in
      let yards : (leb m most_yards && rest) ≡ true = and_right (leb 1 m) (leb m most_yards && rest) h in
      let others : rest ≡ true = and_right (leb m most_yards) rest yards in
      record {
        some_yards = leb-true 1 m (and_left (leb 1 m) (leb m most_yards && rest) h);
        few_yards = leb-true m most_yards (and_left (leb m most_yards) rest yards);
        few_farms = leb-true n most_farms (and_left (leb n most_farms) (question9 m n room) others);
        enough = leb-true (8 * (m + n + 2)) room (and_right (leb n most_farms) (question9 m n room) others);
      }

  -- the records of a sheet with so many yards and farms are few
  pub few_records : plan_fits m n room ≡ true → m + n * m ≤ 4128
  few_records h = let f = fits_says h in omega (arith, f.few_yards, few_places m n f.few_yards f.few_farms)

  pub fits_shape : (s : List ℕ) → plan_fits m n room ≡ true → 8 * (m + n * m) ≤ length s → Shape s m n
  fits_shape s h enough = let f = fits_says h in
      record { room = enough; some_yards = f.some_yards; few_yards = f.few_yards; few_farms = f.few_farms }

-- ---- what is written

module _ (s : List ℕ) (m n set : ℕ) (total : Total) (moves room : ℕ) where
  pub writes_none : plan_fits m n room ≡ false → writing s m n set total moves room ≡ []
  unfolding writing
  writes_none h = rw h

  module _ (fits : plan_fits m n room ≡ true) where
    pub writes_short : length s < 8 * (m + n * m) → writing s m n set total moves room ≡ []
    unfolding writing
    writes_short h = rw (fits, lt-leb (8 * (m + n * m)) (length s) h)

    pub writes_plan : 8 * (m + n * m) ≤ length s → writing s m n set total moves room
        ≡ plan_bytes (instance_by s m n) (farm_byte s m) set (total_amount total (total_cost (instance_by s m n) (member set))) moves
    unfolding writing
    writes_plan h = rw (fits, le-leb (8 * (m + n * m)) (length s) h)

-- ---- the writes of a plan that fits: the records of the yards and the farms, and the last two

-- the last two have room
pub end_room : (m n set room opened : ℕ) → plan_fits m n room ≡ true → opened ≡ count m (member set)
    → (opened ≤ most_yards) × (n ≤ most_farms) × (8 * (opened + n + 2) ≤ room)
end_room m n set room opened fits e =
    let f = fits_says m n room fits in
    let few : opened ≤ m = omega (arith, count_le m (member set)) in
    (omega (arith, f.few_yards), f.few_farms, omega (arith, f.enough))

pub writes_all : (s : List ℕ) (m n set : ℕ) (total : Total) (moves cost amount : ℕ) (area₀ area₁ area₂ : List ℕ) (opened end : ℕ)
    → plan_fits m n (length area₀) ≡ true → 8 * (m + n * m) ≤ length s → opened ≡ count m (member set)
    → cost ≡ total_cost (instance_by s m n) (member set) → amount ≡ total_amount total cost
    → area₁ ≡ splice area₀ 0 (join m (open_record (instance_by s m n) set) ++ join n (farm_record (instance_by s m n) (farm_byte s m) set))
    → end ≡ 8 * (opened + n + 2)
    → area₂ ≡ splice area₁ (8 * (opened + n)) (bytes_of (record_of total_kind opened n 0 amount) ++ moves_record moves)
    → (end ≡ length (writing s m n set total moves (length area₀)))
    × (area₂ ≡ splice area₀ 0 (writing s m n set total moves (length area₀)))
writes_all s m n set total moves cost amount area₀ area₁ area₂ opened end fits enough e c shown put₁ e₂ put₂ =
    let opens = join m (open_record (instance_by s m n) set) in
    let farms = join n (farm_record (instance_by s m n) (farm_byte s m) set) in
    let last = bytes_of (record_of total_kind opened n 0 amount) ++ moves_record moves in
    let parts : writing s m n set total moves (length area₀) ≡ opens ++ farms ++ last =
    writes_plan s m n set total moves (length area₀) fits enough
    ∙ ap (λ (x : ℕ). plan_bytes (instance_by s m n) (farm_byte s m) set x moves) (ap (total_amount total) (sym c) ∙ sym shown)
    ∙ rw e (plan_parts s m n set amount moves) in
    let long : length (opens ++ farms) ≡ 8 * (opened + n) =
    omega (arith, length-append opens farms, opens_length (instance_by s m n) set m, farms_length (instance_by s m n) set (farm_byte s m) n) in
    rw parts (
      omega (arith, length-append (opens ++ farms) last, end_length opened n amount moves),
      put₂ ∙ splice_turn area₀ area₁ 0 (8 * (opened + n)) (opens ++ farms) last put₁ (omega arith)
          (omega (arith, (end_room m n set (length area₀) opened fits e).2)),
    )
