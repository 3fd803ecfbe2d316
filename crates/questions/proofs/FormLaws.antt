-- What a sheet has that passes questions 1 to 4, question by question.
use Prim.Native.Nat.{ℕ, ◌+◌, ◌-◌, ◌*◌, ◌/◌, ◌≤◌, ◌<◌}
use native.Mathlib.Omega.{arith}
use mathlib.Core.Path.{◌≡◌, refl}
use mathlib.Core.Bool.{true, false, ◌&&◌}
use mathlib.Core.List.{List}
use borrow.Author.Tests.{eqb-true, leb-true, not-true}
use lib.ListN.{length}
use lib.Dec.{eqb, leb}
use Rattle.model.specs.Loops.{all_below}
use Rattle.model.proofs.Bools.{and_left, and_right}
use Rattle.model.proofs.LoopLaws.{leading_le, all_at}
use Rattle.record.specs.Records.{records, record_at}
use Rattle.questions.specs.Bounds.{most_yards, most_farms}
use Rattle.questions.specs.Sheet.{is_yard, yards, hauls, farms, place}
use Rattle.questions.specs.Questions.{question2, question3, question4, well_formed, well_formed_at, numbered, no_yard_after, haul_in_place, farm_in_place}
use Rattle.questions.proofs.QuestionLaws.{length_said}
use Rattle.questions.proofs.ReadingLaws.{Formed}

module _ (s : List ℕ) where
  pub yards_le : yards s ≤ records s
  unfolding yards
  yards_le = leading_le (is_yard s) (records s)

  pub hauls_are : hauls s ≡ records s - yards s
  unfolding hauls
  hauls_are = refl

  pub farms_are_hauls : farms s ≡ (records s - yards s) / yards s
  unfolding farms hauls
  farms_are_hauls = refl

  module _ (third : question3 s ≡ true) where
    third_parts : ((leb 1 (yards s) && leb (yards s) most_yards) ≡ true) × ((all_below (yards s) (numbered s) && all_below (hauls s) (no_yard_after s (yards s))) ≡ true)
    unfolding question3
    third_parts = (and_left _ _ third, and_right (leb 1 (yards s) && leb (yards s) most_yards) _ third)

    pub some_yards : 1 ≤ yards s
    some_yards = leb-true 1 (yards s) (and_left _ _ third_parts.0)

    pub few_yards : yards s ≤ most_yards
    few_yards = leb-true (yards s) most_yards (and_right (leb 1 (yards s)) _ third_parts.0)

  module _ (y : Formed s) where
    -- the sheet ends with its last record
    pub whole_records : length s ≡ 8 * records s
    whole_records = omega (arith, (length_said s y.first).0)

    pub well_formed_lem : (i : ℕ) → i < records s → well_formed (record_at s i) ≡ true
    unfolding question2 well_formed_at
    well_formed_lem i l = all_at (well_formed_at s) (records s) i y.second l

    pub yard_numbered : (i : ℕ) → i < yards s → (record_at s i).yard ≡ i
    unfolding numbered
    yard_numbered i l =
        eqb-true (record_at s i).yard i (all_at (numbered s) (yards s) i (and_left _ _ (third_parts y.third).1) l)

    pub no_yard_after_lem : (i : ℕ) → i < hauls s → is_yard s (yards s + i) ≡ false
    unfolding no_yard_after
    no_yard_after_lem i l =
        not-true (is_yard s (yards s + i))
        (all_at (no_yard_after s (yards s)) (hauls s) i (and_right (all_below (yards s) (numbered s)) _ (third_parts y.third).1) l)

    fourth_parts : ((eqb (hauls s) (farms s * yards s) && (leb 1 (farms s) && leb (farms s) most_farms)) ≡ true) × (all_below (farms s) (farm_in_place s (yards s)) ≡ true)
    unfolding question4
    fourth_parts =
        (and_left _ _ y.fourth, and_right (eqb (hauls s) (farms s * yards s) && (leb 1 (farms s) && leb (farms s) most_farms)) _ y.fourth)

    pub hauls_shared : hauls s ≡ farms s * yards s
    hauls_shared = eqb-true (hauls s) (farms s * yards s) (and_left _ _ fourth_parts.0)

    farm_limits : (leb 1 (farms s) && leb (farms s) most_farms) ≡ true
    farm_limits = and_right (eqb (hauls s) (farms s * yards s)) _ fourth_parts.0

    pub some_farms : 1 ≤ farms s
    some_farms = leb-true 1 (farms s) (and_left _ _ farm_limits)

    pub few_farms : farms s ≤ most_farms
    few_farms = leb-true (farms s) most_farms (and_right (leb 1 (farms s)) _ farm_limits)

    pub haul_numbered : (a p : ℕ) → a < yards s → p < farms s
        → ((record_at s (place (yards s) p a)).yard ≡ a) × ((record_at s (place (yards s) p a)).farm ≡ p)
    unfolding farm_in_place haul_in_place
    haul_numbered a p la lp =
        let r = record_at s (place (yards s) p a) in
        let at_farm = all_at (farm_in_place s (yards s)) (farms s) p fourth_parts.1 lp in
        let at_haul = all_at (haul_in_place s (yards s) p) (yards s) a at_farm la in
        (eqb-true r.yard a (and_left _ _ at_haul), eqb-true r.farm p (and_right (eqb r.yard a) _ at_haul))
