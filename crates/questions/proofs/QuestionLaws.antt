-- Laws of questions 1 to 5 and 10: what a record that was read answers, and which part of a question decides it.
use Prim.Native.Nat.{ℕ, ◌+◌, ◌*◌, ◌%◌, ◌≤◌, ◌<◌}
use native.Mathlib.Nat.{add-zero}
use mathlib.Core.Path.{◌≡◌, sym, ap, ap₂, ◌∙◌}
use mathlib.Core.Bool.{true, false, ◌&&◌, and-false}
use mathlib.Core.List.{List}
use borrow.Author.Tests.{eq-eqb, ne_eqb, le-leb, lt-leb, eqb-true, leb-true}
use lib.ListN.{length}
use lib.Dec.{eqb, leb}
use Rattle.model.specs.Loops.{all_below}
use Rattle.model.proofs.Bools.{and_left, and_right}
use Rattle.record.specs.declared.Record.{Record}
use Rattle.record.specs.Records.{record_at}
use Rattle.questions.specs.Bounds.{yard_kind, least_bytes, most_bytes, most_yards, most_farms, most_loads, most_fee, most_haul}
use Rattle.questions.specs.Sheet.{is_yard, yards, hauls, farms, place, loads_byte, farm_byte}
use Rattle.questions.specs.Questions.{question1, well_formed, well_formed_at, question3, numbered, no_yard_after, question4, haul_in_place, farm_in_place, haul_loaded, question5, amount_within}

-- ---- one record

-- the byte of a farm's loads, off its first haul record
pub byte_read : (s : List ℕ) (m p : ℕ) (r : Record) → r ≡ record_at s (m + p * m) → r.byte3 ≡ farm_byte s m p
unfolding loads_byte
byte_read s m p r is = ap (λ (x : Record). x.byte3) (is ∙ ap (record_at s) (sym (add-zero (m + p * m))))

module _ (s : List ℕ) (i : ℕ) (r : Record) (is : r ≡ record_at s i) where
  pub well_formed_read : well_formed r ≡ well_formed_at s i
  unfolding well_formed_at
  well_formed_read = ap well_formed is

  pub yard_read : eqb r.kind yard_kind ≡ is_yard s i
  unfolding is_yard
  yard_read = ap (λ (x : Record). eqb x.kind yard_kind) is

  pub numbered_read : eqb r.yard i ≡ numbered s i
  unfolding numbered
  numbered_read = ap (λ (x : Record). eqb x.yard i) is

  pub in_place_read : (m p a : ℕ) → i ≡ place m p a → (eqb r.yard a && eqb r.farm p) ≡ haul_in_place s m p a
  unfolding haul_in_place
  in_place_read m p a e = rw (← e) (ap (λ (x : Record). eqb x.yard a && eqb x.farm p) is)

  -- beside the first record of the farm
  pub loaded_read : (m p a : ℕ) (first : Record) → first ≡ record_at s (m + p * m) → i ≡ place m p a
      → (eqb r.byte3 first.byte3 && leb r.byte3 most_loads) ≡ haul_loaded s m p a
  unfolding haul_loaded loads_byte
  loaded_read m p a first leads e =
      ap₂ (λ (x y : ℕ). eqb x y && leb x most_loads) (ap (λ (x : Record). x.byte3) (is ∙ ap (record_at s) e)) (byte_read s m p first leads)

module _ (s : List ℕ) where
  -- ---- question 1

  pub right_length : length s % 8 ≡ 0 → least_bytes ≤ length s → length s ≤ most_bytes → question1 s ≡ true
  unfolding question1
  right_length whole long short = rw (whole, le-leb least_bytes (length s) long, le-leb (length s) most_bytes short)

  pub length_said : question1 s ≡ true → (length s % 8 ≡ 0) × (least_bytes ≤ length s) × (length s ≤ most_bytes)
  unfolding question1
  length_said h = let limits = and_right (eqb (length s % 8) 0) _ h in
      (eqb-true (length s % 8) 0 (and_left _ _ h), leb-true least_bytes (length s) (and_left _ _ limits), leb-true (length s) most_bytes (and_right (leb least_bytes (length s)) _ limits))

  -- ---- question 3

  pub no_yards : yards s < 1 → question3 s ≡ false
  unfolding question3
  no_yards none = rw (lt-leb 1 (yards s) none)

  pub many_yards : 1 ≤ yards s → most_yards < yards s → question3 s ≡ false
  unfolding question3
  many_yards some many = rw (le-leb 1 (yards s) some, lt-leb (yards s) most_yards many)

  module _ (some : 1 ≤ yards s) (few : yards s ≤ most_yards) where
    pub misnumbered : all_below (yards s) (numbered s) ≡ false → question3 s ≡ false
    unfolding question3
    misnumbered wrong = rw (le-leb 1 (yards s) some, le-leb (yards s) most_yards few, wrong)

    pub well_numbered : all_below (yards s) (numbered s) ≡ true → all_below (hauls s) (no_yard_after s (yards s)) ≡ question3 s
    unfolding question3
    well_numbered right = rw (le-leb 1 (yards s) some, le-leb (yards s) most_yards few, right)

  -- ---- question 4

  pub no_farms : farms s < 1 → question4 s ≡ false
  unfolding question4
  no_farms none = rw (lt-leb 1 (farms s) none, and-false)

  pub many_farms : 1 ≤ farms s → most_farms < farms s → question4 s ≡ false
  unfolding question4
  many_farms some many = rw (le-leb 1 (farms s) some, lt-leb (farms s) most_farms many, and-false)

  pub uneven : (hauls s ≡ farms s * yards s → ⊥) → question4 s ≡ false
  unfolding question4
  uneven odd = rw (ne_eqb (hauls s) (farms s * yards s) odd)

  pub even : 1 ≤ farms s → farms s ≤ most_farms → hauls s ≡ farms s * yards s → all_below (farms s) (farm_in_place s (yards s)) ≡ question4 s
  unfolding question4
  even some few e = rw (eq-eqb (hauls s) (farms s * yards s) e, le-leb 1 (farms s) some, le-leb (farms s) most_farms few)

  -- ---- question 5

  pub fees_good : all_below (yards s) (amount_within s 0 most_fee) ≡ true → all_below (hauls s) (amount_within s (yards s) most_haul) ≡ question5 s
  unfolding question5
  fees_good right = rw right
