-- Two sheets that differ in amounts alone: questions 1 to 4 and 10 read none, so they answer the same.
use Prim.Native.Nat.{ℕ, ◌+◌, ◌-◌, ◌*◌, ◌/◌, ◌<◌}
use native.Mathlib.Nat.{mul-le-mul_right, div-mul-le_self}
use native.Mathlib.Omega.{arith}
use mathlib.Core.Path.{◌≡◌, ap, ap₂, ◌∙◌}
use mathlib.Core.Bool.{Bool, not, ◌&&◌}
use mathlib.Core.List.{List}
use lib.Dec.{eqb, leb}
use lib.ListN.{length}
use Rattle.model.specs.Loops.{all_below, leading}
use Rattle.model.proofs.LoopLaws.{all_cong, leading_cong}
use Rattle.record.specs.Records.{records, record_at}
use Rattle.questions.specs.Bounds.{yard_kind, most_yards, most_farms, most_loads}
use Rattle.questions.specs.Sheet.{is_yard, yards, hauls, farms, place, loads_byte}
use Rattle.questions.specs.Questions.{question1, well_formed, well_formed_at, question2, numbered, no_yard_after, question3, haul_in_place, farm_in_place, question4, haul_loaded, farm_loaded, question10}
use Rattle.questions.specs.Reading.{form, form_and_loads}
use Rattle.questions.proofs.FormLaws.{yards_le, hauls_are}

pub record SameForm (h s : List ℕ) : Type 0 where
  pub as_long : length h ≡ length s
  pub same_kind : (i : ℕ) → i < records s → (record_at h i).kind ≡ (record_at s i).kind
  pub same_yard : (i : ℕ) → i < records s → (record_at h i).yard ≡ (record_at s i).yard
  pub same_farm : (i : ℕ) → i < records s → (record_at h i).farm ≡ (record_at s i).farm
  pub same_byte3 : (i : ℕ) → i < records s → (record_at h i).byte3 ≡ (record_at s i).byte3

-- the haul from farm p to yard a lies within the sheet
pub place_within : (s : List ℕ) (a p : ℕ) → a < yards s → p < farms s → place (yards s) p a < records s
unfolding farms
place_within s a p la lp =
    omega (arith, mul-le-mul_right (yards s) lp, div-mul-le_self (hauls s) (yards s), hauls_are s, yards_le s)

module _ (h s : List ℕ) (same : SameForm h s) where
  same_records : records h ≡ records s
  same_records = ap (λ (n : ℕ). n / 8) same.as_long

  is_yard_same : (i : ℕ) → i < records s → is_yard h i ≡ is_yard s i
  unfolding is_yard
  is_yard_same i l = ap (λ (k : ℕ). eqb k yard_kind) (same.same_kind i l)

  pub same_yards : yards h ≡ yards s
  unfolding yards
  same_yards = ap (λ (n : ℕ). leading n (is_yard h)) same_records ∙ leading_cong (records s) (is_yard h) (is_yard s) is_yard_same

  pub same_hauls : hauls h ≡ hauls s
  unfolding hauls
  same_hauls = ap₂ ◌-◌ same_records same_yards

  pub same_farms : farms h ≡ farms s
  unfolding farms
  same_farms = ap₂ ◌/◌ same_hauls same_yards

  first_same : question1 h ≡ question1 s
  unfolding question1
  first_same = rw same.as_long

  second_same : question2 h ≡ question2 s
  unfolding question2 well_formed_at well_formed
  second_same =
      ap (λ (n : ℕ). all_below n (well_formed_at h)) same_records
      ∙ all_cong (records s) (well_formed_at h) (well_formed_at s) (λ i l. rw (same.same_kind i l, same.same_farm i l, same.same_byte3 i l))

  third_same : question3 h ≡ question3 s
  unfolding question3 numbered no_yard_after
  third_same =
      rw (same_yards, same_hauls)
      (ap (λ (b : Bool). (leb 1 (yards s) && leb (yards s) most_yards) && b)
      (ap₂ ◌&&◌
      (all_cong (yards s) (numbered h) (numbered s) (λ i l. ap (λ (k : ℕ). eqb k i) (same.same_yard i (omega (arith, yards_le s)))))
      (all_cong (hauls s) (no_yard_after h (yards s)) (no_yard_after s (yards s))
      (λ i l. ap not (is_yard_same (yards s + i) (omega (arith, hauls_are s, yards_le s)))))))

  in_place_same : (a p : ℕ) → a < yards s → p < farms s → haul_in_place h (yards s) p a ≡ haul_in_place s (yards s) p a
  unfolding haul_in_place
  in_place_same a p la lp =
      let l = place_within s a p la lp in
      ap₂ (λ (x z : ℕ). eqb x a && eqb z p) (same.same_yard (place (yards s) p a) l) (same.same_farm (place (yards s) p a) l)

  fourth_same : question4 h ≡ question4 s
  unfolding question4 farm_in_place
  fourth_same =
      rw (same_hauls, same_farms, same_yards)
      (ap (λ (b : Bool). (eqb (hauls s) (farms s * yards s) && (leb 1 (farms s) && leb (farms s) most_farms)) && b)
      (all_cong (farms s) (farm_in_place h (yards s)) (farm_in_place s (yards s)) (λ p lp.
      all_cong (yards s) (haul_in_place h (yards s) p) (haul_in_place s (yards s) p) (λ a la. in_place_same a p la lp))))

  pub same_loads : (a p : ℕ) → a < yards s → p < farms s → loads_byte h (yards s) a p ≡ loads_byte s (yards s) a p
  unfolding loads_byte
  same_loads a p la lp = same.same_byte3 (place (yards s) p a) (place_within s a p la lp)

  loaded_same : (a p : ℕ) → a < yards s → p < farms s → haul_loaded h (yards s) p a ≡ haul_loaded s (yards s) p a
  unfolding haul_loaded
  loaded_same a p la lp =
      ap₂ (λ (x z : ℕ). eqb x z && leb x most_loads) (same_loads a p la lp) (same_loads 0 p (omega arith) lp)

  tenth_same : question10 h ≡ question10 s
  unfolding question10 farm_loaded
  tenth_same =
      rw (same_farms, same_yards)
      (all_cong (farms s) (farm_loaded h (yards s)) (farm_loaded s (yards s)) (λ p lp.
      all_cong (yards s) (haul_loaded h (yards s) p) (haul_loaded s (yards s) p) (λ a la. loaded_same a p la lp)))

  pub same_form_and_loads : form_and_loads h ≡ form_and_loads s
  unfolding form_and_loads form
  same_form_and_loads = rw (first_same, second_same, third_same, fourth_same, tenth_same, same_yards, same_farms)
