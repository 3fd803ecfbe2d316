-- What the pass over the records says of question 13, and what the sheet of hauls is where it passes or not.
use Prim.Native.Nat.{ℕ, ◌+◌, ◌-◌, ◌*◌, ◌%◌, ◌≤◌, ◌<◌}
use native.Mathlib.Omega.{arith}
use native.Mathlib.Decide.{dec_lt}
use mathlib.Core.Path.{◌≡◌, refl, sym, ap, subst, ◌∙◌}
use mathlib.Core.Bool.{Bool, true, false}
use mathlib.Core.List.{List}
use borrow.Author.Tests.{eqb-true, eq-eqb, ne_eqb, leb-true, leb-false}
use lib.Dec.{eqb, leb}
use lib.ListN.{length, take, drop}
use lib.Seq.{take_at}
use Rattle.model.specs.Loops.{all_below}
use Rattle.model.specs.Answers.{Answer, accepted, refused, ask, after}
use Rattle.model.proofs.Bools.{cases, fails}
use Rattle.model.proofs.LoopLaws.{all_at, all_from, all_fails, all_stops, leading_holds}
use Rattle.record.specs.declared.Record.{Record}
use Rattle.record.specs.Records.{records, record_at, splice, amount_end}
use Rattle.record.proofs.SpliceLaws.{splice_front}
use Rattle.record.proofs.RecordLaws.{Bytes, amount_small}
use Rattle.questions.specs.Bounds.{yard_kind, haul_kind, most_bytes}
use Rattle.questions.specs.Sheet.{is_yard, yards, hauls}
use Rattle.questions.specs.Questions.{question1, amount_within}
use Rattle.questions.specs.declared.Counts.{Counts}
use Rattle.questions.specs.Reading.{counts, form_and_loads}
use Rattle.questions.proofs.FormLaws.{yards_le, hauls_are, well_formed_lem, no_yard_after_lem}
use Rattle.questions.proofs.QuestionLaws.{length_said}
use Rattle.questions.proofs.ReadingLaws.{Formed, formed, loaded, form_1, loads_form}
use Rattle.questions.proofs.AcceptedLaws.{haul_well_formed}
use Rattle.tariff.specs.declared.bands.Tariff.{Tariff}
use Rattle.tariff.specs.Bands.{Bands, haul_by, last_end}
use Rattle.tariff.specs.Pricing.{price_of, PricesAs}
use Rattle.distances.specs.Priced.{priced_record, priced_sheet, question13, priced_by, under_tariff}
use Rattle.distances.specs.Lent.{formed as formed_sheet}
use Rattle.distances.specs.Blocks.{distance_of, within_reach}
use Rattle.distances.proofs.PricedLaws.{sheet_length, same_sheet}
use Rattle.distances.proofs.FormKept.{form_kept}

-- ---- one record

pub distance_haul : (r : Record) → r.kind ≡ haul_kind → distance_of r ≡ r.amount
unfolding distance_of
distance_haul r h = rw (eq-eqb r.kind haul_kind h)

pub distance_other : (r : Record) → ¬ (r.kind ≡ haul_kind) → distance_of r ≡ 0
unfolding distance_of
distance_other r h = rw (ne_eqb r.kind haul_kind h)

-- ---- question 13

module _ (s : List ℕ) (y : Formed s) (reach : ℕ) where
  -- the records after the yards are hauls
  haul_after : (i : ℕ) → i < hauls s → (record_at s (yards s + i)).kind ≡ haul_kind
  unfolding is_yard
  haul_after i l =
      haul_well_formed (record_at s (yards s + i)) (no_yard_after_lem s y i l) (well_formed_lem s y (yards s + i) (omega (arith, hauls_are s, yards_le s)))

  yard_first : (i : ℕ) → i < yards s → (record_at s i).kind ≡ yard_kind
  unfolding yards is_yard
  yard_first i l = eqb-true (record_at s i).kind yard_kind (leading_holds (is_yard s) (records s) i l)

  pub none_past : all_below (records s) (within_reach reach s) ≡ true → question13 reach s ≡ true
  unfolding question13 amount_within within_reach
  none_past h =
      all_from (amount_within s (yards s) reach) (hauls s) (λ i l.
      let here = all_at (within_reach reach s) (records s) (yards s + i) h (omega (arith, hauls_are s, yards_le s)) in
      sym (ap (λ (d : ℕ). leb d reach) (distance_haul (record_at s (yards s + i)) (haul_after i l))) ∙ here)

  pub some_past : all_below (records s) (within_reach reach s) ≡ false → question13 reach s ≡ false
  unfolding question13 amount_within within_reach
  some_past h =
      let far = all_fails (within_reach reach s) (records s) h in
      let i = far.0 in
      elim (dec_lt i (yards s)) [
        | yes l ↦ absurd (let none = distance_other (record_at s i) (λ e. let k = yard_first i l in omega arith) in
            omega (arith, leb-false (distance_of (record_at s i)) reach far.2))
        | no g ↦
            let e : yards s + (i - yards s) ≡ i = omega arith in
            let below : i - yards s < hauls s = omega (arith, hauls_are s, far.1) in
            all_stops (amount_within s (yards s) reach) (hauls s) (i - yards s) below
            (sym (ap (λ (d : ℕ). leb d reach) (distance_haul (record_at s (yards s + (i - yards s))) (haul_after (i - yards s) below)))
            ∙ ap (λ (k : ℕ). leb (distance_of (record_at s k)) reach) e ∙ far.2)
      ]

-- a haul of a record that is not past the reach fits an amount, where the prices up to there do
pub priced_fits : (f : ℕ → ℕ) (reach : ℕ) (s : List ℕ) → Bytes s → ((d : ℕ) → d ≤ reach → f d < amount_end)
    → all_below (records s) (within_reach reach s) ≡ true → (i : ℕ) → i < records s → (priced_record f (record_at s i)).amount < amount_end
unfolding within_reach priced_record
priced_fits f reach s bytes small h i l =
    let near = leb-true (distance_of (record_at s i)) reach (all_at (within_reach reach s) (records s) i h l) in
    cases (eqb (record_at s i).kind haul_kind)
    (λ e. rw e (small (record_at s i).amount (omega (arith, distance_haul (record_at s i) (eqb-true (record_at s i).kind haul_kind e)))))
    (λ e. rw e (amount_small s bytes i))

-- ---- the cases of `priced_by`

module _ (f : ℕ → ℕ) (reach : ℕ) (s : List ℕ) where
  pub form_refuses : (k : ℕ) → form_and_loads s ≡ refused k → priced_by f reach s ≡ refused k
  unfolding priced_by
  form_refuses k e = rw e

  pub refuses_1 : question1 s ≡ false → priced_by f reach s ≡ refused 1
  refuses_1 h = form_refuses 1 (loads_form s 1 (form_1 s h))

  pub refuses_13 : (m n : ℕ) → form_and_loads s ≡ accepted (counts m n) → all_below (records s) (within_reach reach s) ≡ false → priced_by f reach s ≡ refused 13
  unfolding priced_by
  refuses_13 m n e h = rw (e, some_past s (formed s m n (loaded s m n e).0).0 reach h)

  -- the priced sheet, of which 1 to 4 and 10 are still to be asked
  pub priced_told : length s ≡ 8 * records s → Bytes s → ((d : ℕ) → d ≤ reach → f d < amount_end)
      → all_below (records s) (within_reach reach s) ≡ true → formed_sheet (priced_sheet f s) ≡ priced_by f reach s
  unfolding formed_sheet priced_by
  priced_told whole bytes small h =
      rw (form_kept f s whole (priced_fits f reach s bytes small h)) (go (form_and_loads s) refl)
    where
      go : (a : Answer Counts) → form_and_loads s ≡ a
          → after a (λ c. accepted (priced_sheet f s)) ≡ after a (λ c. ask (question13 reach s) 13 (accepted (priced_sheet f s)))
      go (accepted c) e = rw (none_past s (formed s c.yards c.farms (loaded s c.yards c.farms e).0).0 reach h)
      go (refused k) e = refl

  -- as it stands at the front of the bytes lent
  pub front_is : (lent next : List ℕ) → length s ≡ 8 * records s → next ≡ splice lent 0 (priced_sheet f s) → take (length s) next ≡ priced_sheet f s
  front_is lent next whole put =
      ap (take (length s)) (put ∙ splice_front lent (priced_sheet f s))
      ∙ take_at (priced_sheet f s) (drop (length (priced_sheet f s)) lent) (length s) (sheet_length f s ∙ sym whole)

-- lengths that question 1 refuses
pub odd_length : (s : List ℕ) → ¬ (length s % 8 ≡ 0) → question1 s ≡ false
odd_length s h = fails (λ e. h (length_said s e).0)

pub too_long : (s : List ℕ) → most_bytes < length s → question1 s ≡ false
too_long s h = fails (λ e. omega (arith, (length_said s e).2))

-- ---- a tariff as a value prices a sheet as its bands do

pub priced_as : (b : Bands) (t : Tariff) (s : List ℕ) → PricesAs b t → priced_by (price_of t) t.reach s ≡ under_tariff b s
unfolding priced_by question13 amount_within
priced_as b t s p =
    ap (λ (end : ℕ). priced_by (price_of t) end s) p.reaches ∙ go (form_and_loads s) refl (question13 (last_end b) s) refl
  where
    within : Formed s → question13 (last_end b) s ≡ true → (i : ℕ) → i < records s → (record_at s i).kind ≡ haul_kind → (record_at s i).amount ≤ last_end b
    within y q i l kind =
        elim (dec_lt i (yards s)) [
          | yes below ↦ absurd (let k = yard_first s y (last_end b) i below in omega arith)
          | no g ↦
              let e : yards s + (i - yards s) ≡ i = omega arith in
              subst (λ (k : ℕ). (record_at s k).amount ≤ last_end b) e
              (leb-true (record_at s (yards s + (i - yards s))).amount (last_end b)
              (all_at (amount_within s (yards s) (last_end b)) (hauls s) (i - yards s) q (omega (arith, hauls_are s))))
        ]

    go : (a : Answer Counts) → form_and_loads s ≡ a → (q : Bool) → question13 (last_end b) s ≡ q
        → after a (λ c. ask q 13 (accepted (priced_sheet (price_of t) s))) ≡ after a (λ c. ask q 13 (accepted (priced_sheet (haul_by b) s)))
    go (accepted c) e true h =
        let y = (formed s c.yards c.farms (loaded s c.yards c.farms e).0).0 in
        ap accepted (same_sheet (price_of t) (haul_by b) s (λ i l kind. p.prices (record_at s i).amount (within y h i l kind)))
    go (accepted c) e false h = refl
    go (refused k) e q h = refl
