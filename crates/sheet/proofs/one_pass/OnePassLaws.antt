-- The one pass: a sheet on which every record is the one of its place passes questions 2 to 4, 10 and 5.
use Prim.Native.Nat.{ℕ, zero, ◌+◌, ◌-◌, ◌*◌, ◌/◌, ◌%◌, ◌≤◌, ◌<◌}
use native.Mathlib.Nat.{mul-le-mul_right, not-suc-le-zero, zero-add, mod-lt, mod-add-div', div-lt_iff_lt-mul}
use native.Mathlib.Decide.{dec_lt}
use native.Mathlib.Omega.{arith}
use mathlib.Core.Path.{◌≡◌, refl, sym, ap, ap₂, subst, ◌∙◌}
use mathlib.Core.Bool.{Bool, true, false, cond, ◌&&◌, and-false}
use mathlib.Core.List.{List}
use borrow.Author.Tests.{eq-eqb, le-leb, lt-leb, eqb-true, leb-true}
use lib.Dec.{eqb, leb}
use Rattle.model.specs.Loops.{all_below, leading}
use Rattle.model.proofs.Bools.{and_left, and_right, and_both}
use Rattle.model.proofs.LoopLaws.{all_at, all_from, all_stops, leading_reaches}
use Rattle.four_point.specs.Table.{cost_limit}
use Rattle.record.specs.declared.Record.{Record}
use Rattle.record.specs.Records.{records, record_at}
use Rattle.questions.specs.Bounds.{yard_kind, haul_kind, most_yards, most_farms, most_loads, most_fee, most_haul}
use Rattle.questions.specs.Sheet.{is_yard, yards, hauls, farms, place, haul, loads_byte, farm_byte}
use Rattle.questions.specs.Shape.{Shape}
use Rattle.questions.specs.Questions.{question1, question2, question3, question4, question10, question5, well_formed, well_formed_at, numbered, no_yard_after, haul_in_place, farm_in_place, haul_loaded, farm_loaded, amount_within}
use Rattle.sheet.specs.OnePass.{record_is, good_yard, good_yards, good_haul, good_farm, Passes}
use Rattle.questions.proofs.ReadingLaws.{Formed, form_yes, loads_yes}
use Rattle.questions.proofs.QuestionLaws.{well_numbered, even, fees_good}
use Rattle.questions.proofs.FormLaws.{hauls_are, farms_are_hauls}

-- ---- one record

-- what the test of a record says of it
record Said (r : Record) (kind yard farm byte3 most : ℕ) : Type 0 where
  is_well_formed : well_formed r ≡ true
  kind_is : r.kind ≡ kind
  yard_is : r.yard ≡ yard
  farm_is : r.farm ≡ farm
  byte3_is : r.byte3 ≡ byte3
  within : r.amount ≤ most

module _ (r : Record) (kind yard farm byte3 most : ℕ) where
  says : record_is r kind yard farm byte3 most ≡ true → Said r kind yard farm byte3 most
  unfolding record_is
  says h =
      let at_place = and_right (well_formed r) _ h in
      let numbers = and_right (eqb r.kind kind) _ at_place in
      let more = and_right (eqb r.yard yard) _ numbers in
      let last = and_right (eqb r.farm farm) _ more in
      record {
        is_well_formed = and_left _ _ h;
        kind_is = eqb-true r.kind kind (and_left _ _ at_place);
        yard_is = eqb-true r.yard yard (and_left _ _ numbers);
        farm_is = eqb-true r.farm farm (and_left _ _ more);
        byte3_is = eqb-true r.byte3 byte3 (and_left _ _ last);
        within = leb-true r.amount most (and_right (eqb r.byte3 byte3) _ last);
      }

-- what the pass learns of record i
pub yard_tested : (s : List ℕ) (i : ℕ) (r : Record) → r ≡ record_at s i → record_is r yard_kind i 0 0 most_fee ≡ good_yard s i
unfolding good_yard
yard_tested s i r is = ap (λ x. record_is x yard_kind i 0 0 most_fee) is

-- what the pass learns of the record at the place of a haul
module _ (s : List ℕ) (m p a byte : ℕ) (r : Record) (b : Bool) (is : r ≡ record_at s (place m p a)) (first : byte ≡ farm_byte s m p)
    (tested : b ≡ record_is r haul_kind a p byte most_haul) where
  pub haul_tested : b ≡ good_haul s m p a
  unfolding good_haul
  haul_tested = tested ∙ ap₂ (λ x y. record_is x haul_kind a p y most_haul) is first

  pub haul_read : r.amount ≡ haul s m a p
  unfolding haul
  haul_read = ap (λ (x : Record). x.amount) is

  pub haul_low : b ≡ true → r.amount < cost_limit
  haul_low e = omega (arith, (says r haul_kind a p byte most_haul (sym tested ∙ e)).within)

-- what it learns of the farm
module _ (s : List ℕ) (m p : ℕ) where
  pub many_loads : most_loads < farm_byte s m p → false ≡ good_farm s m p
  unfolding good_farm
  many_loads many = rw (lt-leb (farm_byte s m p) most_loads many)

  pub bad_haul : (a : ℕ) → a < m → good_haul s m p a ≡ false → false ≡ good_farm s m p
  unfolding good_farm
  bad_haul a l bad = rw (all_stops (good_haul s m p) m a l bad, and-false)

  pub good_hauls : farm_byte s m p ≤ most_loads → true ≡ all_below m (good_haul s m p) → true ≡ good_farm s m p
  unfolding good_farm
  good_hauls few good = rw (le-leb (farm_byte s m p) most_loads few) good

-- ---- the sheet

-- a sheet has its shape with fewer farms too
pub fewer_farms : (s : List ℕ) (m n k : ℕ) → Shape s m n → k ≤ n → Shape s m k
fewer_farms s m n k shape l =
    record {
      room = omega (arith, mul-le-mul_right m l, shape.room);
      some_yards = shape.some_yards;
      few_yards = shape.few_yards;
      few_farms = omega (arith, shape.few_farms);
    }

module _ (s : List ℕ) (some_yards : 1 ≤ yards s) (few_yards : yards s ≤ most_yards) (some_farms : 1 ≤ farms s) (few_farms : farms s ≤ most_farms)
    (shared : hauls s ≡ farms s * yards s) (yards_good : all_below (yards s) (good_yard s) ≡ true)
    (farms_good : all_below (farms s) (good_farm s (yards s)) ≡ true) where
  yard_said : (i : ℕ) → i < yards s → Said (record_at s i) yard_kind i 0 0 most_fee
  unfolding good_yard
  yard_said i l = says (record_at s i) yard_kind i 0 0 most_fee (all_at (good_yard s) (yards s) i yards_good l)

  farm_said : (p : ℕ) → p < farms s → (farm_byte s (yards s) p ≤ most_loads) × (all_below (yards s) (good_haul s (yards s) p) ≡ true)
  unfolding good_farm
  farm_said p lp =
      let byte = farm_byte s (yards s) p in
      let both = all_at (good_farm s (yards s)) (farms s) p farms_good lp in
      (leb-true byte most_loads (and_left _ _ both), and_right (leb byte most_loads) _ both)

  haul_said : (p a : ℕ) → p < farms s → a < yards s → Said (record_at s (place (yards s) p a)) haul_kind a p (farm_byte s (yards s) p) most_haul
  unfolding good_haul
  haul_said p a lp la =
      says (record_at s (place (yards s) p a)) haul_kind a p (farm_byte s (yards s) p) most_haul
      (all_at (good_haul s (yards s) p) (yards s) a (farm_said p lp).1 la)

  -- haul record k is that of farm k / m and yard k % m
  haul_said_at : (k : ℕ) → k < hauls s → Said (record_at s (yards s + k)) haul_kind (k % yards s) (k / yards s) (farm_byte s (yards s) (k / yards s)) most_haul
  haul_said_at k l =
      let m = yards s in
      let some : zero < m = omega arith in
      let farm : k / m < farms s = (div-lt_iff_lt-mul some).1 (subst (λ (x : ℕ). k < x) shared l) in
      subst (λ (i : ℕ). Said (record_at s i) haul_kind (k % m) (k / m) (farm_byte s m (k / m)) most_haul) (omega (arith, mod-add-div' k m)) (haul_said (k / m) (k % m) farm (mod-lt k some))

  second : question2 s ≡ true
  unfolding question2 well_formed_at
  second =
      all_from (well_formed_at s) (records s)
      (λ i l. elim (dec_lt i (yards s)) [
        | yes b ↦ (yard_said i b).is_well_formed
        | no g ↦
            let k = i - yards s in
            subst (λ (j : ℕ). well_formed (record_at s j) ≡ true) (omega arith)
            (haul_said_at k (omega (arith, hauls_are s))).is_well_formed
      ])

  third : question3 s ≡ true
  unfolding numbered no_yard_after is_yard
  third =
      sym (well_numbered s some_yards few_yards
      (all_from (numbered s) (yards s) (λ i l. eq-eqb (record_at s i).yard i (yard_said i l).yard_is)))
      ∙ all_from (no_yard_after s (yards s)) (hauls s) (λ k l. rw (haul_said_at k l).kind_is)

  fourth : question4 s ≡ true
  unfolding farm_in_place haul_in_place
  fourth =
      sym (even s some_farms few_farms shared)
      ∙ all_from (farm_in_place s (yards s)) (farms s)
      (λ p lp. all_from (haul_in_place s (yards s) p) (yards s)
      (λ a la.
      let h = haul_said p a lp la in
      let r = record_at s (place (yards s) p a) in
      and_both (eq-eqb r.yard a h.yard_is) (eq-eqb r.farm p h.farm_is)))

  tenth : question10 s ≡ true
  unfolding question10 farm_loaded haul_loaded loads_byte
  tenth =
      all_from (farm_loaded s (yards s)) (farms s)
      (λ p lp. all_from (haul_loaded s (yards s) p) (yards s)
      (λ a la.
      let byte = loads_byte s (yards s) a p in
      let first = farm_byte s (yards s) p in
      let same : byte ≡ first = (haul_said p a lp la).byte3_is in
      and_both (eq-eqb byte first same) (le-leb byte most_loads (omega (arith, (farm_said p lp).0)))))

  fifth : question5 s ≡ true
  unfolding amount_within
  fifth =
      sym (fees_good s (all_from (amount_within s 0 most_fee) (yards s)
      (λ i l. rw (zero-add i) (le-leb (record_at s i).amount most_fee (yard_said i l).within))))
      ∙ all_from (amount_within s (yards s) most_haul) (hauls s)
      (λ k l. le-leb (record_at s (yards s + k)).amount most_haul (haul_said_at k l).within)

-- ---- the counts that the one pass gives

-- how its tests of the yards come out
module _ (s : List ℕ) where
  pub yards_good : (i : ℕ) → yards s ≡ i → i ≤ most_yards → true ≡ all_below i (good_yard s) → i ≡ good_yards s
  unfolding good_yards
  yards_good i e few good = rw (e, le-leb i most_yards few, ← good)

  module _ (i : ℕ) (led : leading (i + 1) (is_yard s) ≡ i + 1) (inside : i < records s) where
    more : i < yards s
    unfolding yards
    more = omega (arith, leading_reaches (is_yard s) (records s) (i + 1) led (omega arith))

    pub yards_many : most_yards ≤ i → 0 ≡ good_yards s
    unfolding good_yards
    yards_many many = rw (lt-leb (yards s) most_yards (omega (arith, more)))

    pub yards_bad : good_yard s i ≡ false → 0 ≡ good_yards s
    unfolding good_yards
    yards_bad bad = rw (all_stops (good_yard s) (yards s) i more bad, and-false)

-- the yards that it counts are those that stand first
pub yards_counted : (s : List ℕ) (y : ℕ) → y ≡ good_yards s → 1 ≤ y → (y ≡ yards s) × (y ≤ most_yards) × (all_below y (good_yard s) ≡ true)
unfolding good_yards
yards_counted s y e some = go (leb (yards s) most_yards && all_below (yards s) (good_yard s)) refl
  where
    go : (b : Bool) → (leb (yards s) most_yards && all_below (yards s) (good_yard s)) ≡ b
        → (y ≡ yards s) × (y ≤ most_yards) × (all_below y (good_yard s) ≡ true)
    go true h =
        let is : y ≡ yards s = e ∙ ap (λ (b : Bool). cond b (yards s) 0) h in
        (is, rw is (leb-true (yards s) most_yards (and_left _ _ h)), rw is (and_right (leb (yards s) most_yards) _ h))
    go false h = let none : y ≡ 0 = e ∙ ap (λ (b : Bool). cond b (yards s) 0) h in absurd (not-suc-le-zero (rw none at some))

pub passes : (s : List ℕ) (m n : ℕ) → question1 s ≡ true → m ≡ good_yards s → 1 ≤ m → n ≡ (records s - m) / m → 1 ≤ n → n ≤ most_farms
    → records s - m ≡ n * m → all_below n (good_farm s m) ≡ true → Passes s m n
passes s m n first counted some n_is some_farms few_farms e farms_good =
    let led = yards_counted s m counted some in
    let y : m ≡ yards s = led.0 in
    let f : n ≡ farms s = n_is ∙ (rw y refl ∙ sym (farms_are_hauls s)) in
    let shared : hauls s ≡ farms s * yards s = hauls_are s ∙ rw (← y, ← f) e in
    let a : 1 ≤ yards s = omega arith in
    let b : yards s ≤ most_yards = omega (arith, led.1) in
    let c : 1 ≤ farms s = omega arith in
    let d : farms s ≤ most_farms = omega arith in
    let g : all_below (yards s) (good_yard s) ≡ true = rw (← y) led.2 in
    let h : all_below (farms s) (good_farm s (yards s)) ≡ true = rw (← y, ← f) farms_good in
    let formed : Formed s = record { first = first; second = second s a b c d shared g h; third = third s a b c d shared g h; fourth = fourth s a b c d shared g h } in
    (rw (y, f) (loads_yes s (form_yes s formed) (tenth s a b c d shared g h)), fifth s a b c d shared g h)
