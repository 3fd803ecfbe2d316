-- What the one pass tells. Where it finds no fault, all questions before 6 are answered yes, and the table decides question 6. A sheet that they
-- pass has no fault, so where it finds one, they turn the sheet down.
use Prim.Native.Nat.{ℕ, ◌-◌, ◌*◌, ◌/◌, ◌%◌, ◌≤◌, ◌<◌}
use native.Mathlib.Omega.{arith}
use mathlib.Core.Path.{◌≡◌, sym, ◌∙◌}
use mathlib.Core.Bool.{true, false}
use mathlib.Core.List.{List}
use borrow.Author.Tests.{eq-eqb, le-leb}
use lib.ListN.{length}
use Rattle.model.specs.Loops.{all_below}
use Rattle.model.proofs.Bools.{cases, clash, eqb_self, and_both}
use Rattle.model.proofs.LoopLaws.{all_from}
use Rattle.four_point.specs.Table.{keeps_rule}
use Rattle.record.specs.Records.{records}
use Rattle.questions.specs.Bounds.{least_bytes, most_bytes, most_yards, most_farms, most_loads, most_fee, most_haul}
use Rattle.model.specs.Answers.{accepted, refused}
use Rattle.questions.specs.Sheet.{fee, haul, loads_byte, farm_byte}
use Rattle.questions.specs.Questions.{well_formed, question5, question6}
use Rattle.questions.specs.declared.Counts.{Counts}
use Rattle.questions.specs.Reading.{counts, form, form_and_loads, reading}
use Rattle.questions.proofs.ReadingLaws.{formed, loaded, reading_5, reading_6, reading_yes}
use Rattle.questions.proofs.QuestionLaws.{length_said}
use Rattle.questions.proofs.FormLaws.{farms_are_hauls}
use Rattle.questions.proofs.AcceptedLaws.{HasAmounts, has_form, shape_of, has_amounts, sixth_is}
use Rattle.sheet.specs.Hauls.{Filled}
use Rattle.sheet.specs.OnePass.{record_is, good_yard, good_yards, good_haul, good_farm, Passes, Fails}
use Rattle.sheet.proofs.HaulLaws.{filled_metric}

-- ---- the records of a sheet that all questions before 6 pass

module _ (s : List ℕ) (m n : ℕ) (h : Passes s m n) where
  has : HasAmounts s m n
  has = has_amounts s m n h.0 h.1

  good_yard_lem : (i : ℕ) → i < m → good_yard s i ≡ true
  unfolding good_yard record_is well_formed
  good_yard_lem i l = let five = has in
      rw (five.has.yard_record i l, eqb_self i, le-leb (fee s i) most_fee (five.fees i l))

  good_haul_lem : (p a : ℕ) → p < n → a < m → good_haul s m p a ≡ true
  unfolding good_haul record_is well_formed
  good_haul_lem p a lp la = let five = has in
      rw (
        five.has.haul_record a p la lp,
        eqb_self a,
        eqb_self p,
        eq-eqb (loads_byte s m a p) (farm_byte s m p) (five.loads_same a p la lp),
        le-leb (haul s m a p) most_haul (five.hauls_within_lem a p la lp),
      )

  counted : good_yards s ≡ m
  unfolding good_yards
  counted = let form = has.has in
      let all : all_below m (good_yard s) ≡ true = all_from (good_yard s) m good_yard_lem in
      rw (form.yards_are, le-leb m most_yards form.few_yards, all)

  pub all_farms : all_below n (good_farm s m) ≡ true
  unfolding good_farm
  all_farms =
      all_from (good_farm s m) n
      (λ p lp. and_both (le-leb (farm_byte s m p) most_loads (has.loads_within p lp)) (all_from (good_haul s m p) m (λ a la. good_haul_lem p a lp la)))

  formed_so : form s ≡ accepted (counts m n)
  formed_so = (loaded s m n h.0).0

-- ---- so where a test fails, some question before 6 is answered no

module _ (s : List ℕ) where
  pub bad_length : ((length s % 8 ≡ 0) × (least_bytes ≤ length s) × (length s ≤ most_bytes) → ⊥) → Fails s
  bad_length bad m n h = bad (length_said s (formed s m n (formed_so s m n h)).0.first)

  module _ (y : ℕ) (yards_are : y ≡ good_yards s) where
    pub bad_yards : y < 1 → Fails s
    bad_yards none m n h = omega (arith, yards_are, counted s m n h, (has_form s m n (formed_so s m n h)).some_yards)

    module _ (f : ℕ) (farms_are : f ≡ (records s - y) / y) where
      same_counts : (m n : ℕ) → Passes s m n → (y ≡ m) × (f ≡ n)
      same_counts m n h = let form = has_form s m n (formed_so s m n h) in
          let e : y ≡ m = yards_are ∙ counted s m n h in
          (e, farms_are ∙ rw (e, ← form.yards_are) (sym (farms_are_hauls s) ∙ form.farms_are))

      pub bad_farms : ((1 ≤ f) × (f ≤ most_farms) → ⊥) → Fails s
      bad_farms bad m n h = let form = has_form s m n (formed_so s m n h) in
          let same = (same_counts m n h).1 in
          bad (omega (arith, same, form.some_farms), omega (arith, same, form.few_farms))

      pub left_over : (records s - y ≡ f * y → ⊥) → Fails s
      left_over bad m n h = let same = same_counts m n h in
          bad (rw (same.0, same.1) (omega (arith, (has_form s m n (formed_so s m n h)).long)))

      pub bad_farm : all_below f (good_farm s y) ≡ false → Fails s
      bad_farm bad m n h = let same = same_counts m n h in
          clash (rw (same.0, same.1) (all_farms s m n h)) bad

  -- then question 5 turns the sheet down, or one of those that are asked before it
  pub five_refuses : Fails s → (c : Counts) → form_and_loads s ≡ accepted c → reading s ≡ refused 5
  five_refuses fails c e = cases (question5 s) (λ yes_5. absurd (fails c.yards c.farms (e, yes_5))) (λ no_5. reading_5 s e no_5)

-- ---- where the pass finds no fault, the table decides question 6

module _ (s : List ℕ) (m n : ℕ) (table : List ℕ) (told : Passes s m n × Filled s m n 0 table) where
  told_sixth : keeps_rule table m n ≡ question6 s
  told_sixth = let form = has_form s m n (formed_so s m n told.0) in
      filled_metric s m n table (shape_of form) told.1 ∙ sixth_is form

  pub rule_broken : keeps_rule table m n ≡ false → reading s ≡ refused 6
  rule_broken e = reading_6 s told.0.0 told.0.1 (sym told_sixth ∙ e)

  pub rule_kept : keeps_rule table m n ≡ true → reading s ≡ accepted (counts m n)
  rule_kept e = reading_yes s told.0.0 told.0.1 (sym told_sixth ∙ e)
