-- A floor under limited lists, by a copy of the sheet with equal fees: reading accepts the copy, and what is accepted on it is under k times the fee and the
-- hauls, on the sheet, of at most k yards.
use Prim.Native.Nat.{ℕ, ◌+◌, ◌*◌, ◌≤◌, ◌<◌}
use native.Mathlib.Nat.{zero-add}
use native.Mathlib.Omega.{arith}
use native.Mathlib.Decide.{dec_lt}
use mathlib.Core.Path.{◌≡◌, refl, sym, ap, ap₂, ◌∙◌}
use mathlib.Core.Bool.{Bool, true}
use mathlib.Core.List.{List}
use borrow.Author.Tests.{le-leb}
use lib.Dec.{leb}
use Rattle.model.specs.Loops.{all_below}
use Rattle.model.specs.Least.{any}
use Rattle.model.specs.Sets.{count}
use Rattle.model.specs.Instance.{service_cost}
use Rattle.model.specs.Answers.{accepted}
use Rattle.model.proofs.AnswerLaws.{asked, passed_first}
use Rattle.model.proofs.Bools.{and_right, and_both}
use Rattle.model.proofs.LoopLaws.{all_from, all_cong}
use Rattle.model.proofs.CostLaws.{same_metric, same_service}
use Rattle.model.proofs.FloorLaws.{floor_equal}
use Rattle.record.specs.declared.Record.{Record}
use Rattle.record.specs.Records.{records, record_of, record_at, amount_at}
use Rattle.questions.specs.Bounds.{yard_kind, most_fee, most_haul}
use Rattle.questions.specs.Sheet.{yards, hauls, farms, fee, place, haul, farm_byte, loads_of, instance_by, instance_of}
use Rattle.questions.specs.Questions.{amount_within, question5, question6}
use Rattle.questions.specs.Reading.{counts, form_and_loads, reading}
use Rattle.questions.proofs.ReadingLaws.{accepted_when, reading_yes}
use Rattle.questions.proofs.FormLaws.{yards_le, hauls_are}
use Rattle.questions.proofs.AcceptedLaws.{HasForm, accepts, facilities_are}
use Rattle.questions.proofs.SameFormLaws.{SameForm, place_within, same_yards, same_hauls, same_farms, same_loads, same_form_and_loads}
use Rattle.floor.specs.Offering.{offering, WithFees}
use Rattle.floor.proofs.OfferingLaws.{passed}

-- ---- the copy has the form of the sheet

module _ (amount : ℕ) (s t : List ℕ) (w : WithFees amount s t) (m n : ℕ) (has : HasForm s m n) where
  -- what a yard's record has whatever its fee is, stands in the copy too
  agree : (g : Record → ℕ) → ((i x y : ℕ) → g (record_of yard_kind i 0 0 x) ≡ g (record_of yard_kind i 0 0 y))
      → (i : ℕ) → i < records s → g (record_at t i) ≡ g (record_at s i)
  agree g any_fee i l =
      elim (dec_lt i (yards s)) [
        | yes below ↦
            ap g (w.yard_records i below) ∙ any_fee i amount (fee s i) ∙ sym (ap g (has.yard_record i (omega (arith, has.yards_are))))
        | no above ↦ ap g (w.other_records i (omega arith) l)
      ]

  pub copy_form : SameForm t s
  copy_form =
      record {
        as_long = w.as_long;
        same_kind = agree (λ r. r.kind) (λ i x y. refl);
        same_yard = agree (λ r. r.yard) (λ i x y. refl);
        same_farm = agree (λ r. r.farm) (λ i x y. refl);
        same_byte3 = agree (λ r. r.byte3) (λ i x y. refl);
      }

  -- so have all amounts behind the fees the same answer to a bound
  pub copy_within : (most : ℕ) → all_below (hauls t) (amount_within t (yards t) most) ≡ all_below (hauls s) (amount_within s (yards s) most)
  unfolding amount_within
  copy_within most =
      rw (same_yards t s copy_form, same_hauls t s copy_form)
      (all_cong (hauls s) (amount_within t (yards s) most) (amount_within s (yards s) most)
      (λ i l. ap (λ (r : Record). leb r.amount most) (w.other_records (yards s + i) (omega arith) (omega (arith, hauls_are s, yards_le s)))))

module _ (amount : ℕ) (s t : List ℕ) (w : WithFees amount s t) (m n : ℕ) (e : reading s ≡ accepted (counts m n)) where
  -- ---- its hauls and its loads

  form_same : SameForm t s
  form_same = copy_form amount s t w m n (accepts s m n e).has

  yards_same : yards t ≡ yards s
  yards_same = same_yards t s form_same

  farms_same : farms t ≡ farms s
  farms_same = same_farms t s form_same

  haul_same : (a p : ℕ) → a < yards s → p < farms s → haul t (yards t) a p ≡ haul s (yards s) a p
  unfolding haul
  haul_same a p la lp =
      ap (λ k. (record_at t (place k p a)).amount) yards_same
      ∙ ap (λ (r : Record). r.amount) (w.other_records (place (yards s) p a) (omega arith) (place_within s a p la lp))

  loads_same : (p : ℕ) → p < farms s → farm_byte t (yards t) p ≡ farm_byte s (yards s) p
  loads_same p lp =
      let has = (accepts s m n e).has in
      ap (λ k. farm_byte t k p) yards_same ∙ same_loads t s form_same 0 p (omega (arith, has.yards_are, has.some_yards)) lp

  -- ---- reading accepts it, where the fee is one that question 5 passes

  fifth_same : amount ≤ most_fee → question5 s ≡ true → question5 t ≡ true
  unfolding question5 amount_within
  fifth_same small h =
      and_both {a = all_below (yards t) (amount_within t 0 most_fee)}
      (rw yards_same (all_from (amount_within t 0 most_fee) (yards s)
      (λ i l. rw (zero-add i) (le-leb (record_at t i).amount most_fee (rw (w.yard_records i l) small)))))
      (copy_within amount s t w m n (accepts s m n e).has most_haul ∙ and_right (all_below (yards s) (amount_within s 0 most_fee)) _ h)

  sixth_same : question6 t ≡ question6 s
  unfolding question6 instance_of instance_by
  sixth_same =
      same_metric (instance_of t) (instance_of s) yards_same farms_same
      (λ a p la lp. haul_same a p (omega (arith, yards_same)) (omega (arith, farms_same)))

  pub copy_read : amount ≤ most_fee → reading t ≡ accepted (counts m n)
  unfolding reading
  copy_read small =
      let all = (accepted_when s m n e).0 in
      let form = passed_first (form_and_loads s) _ (counts m n) e in
      let last = (asked (question6 s) 6 _ (counts m n) (asked (question5 s) 5 _ (counts m n) form.2).1).1 in
      reading_yes t (same_form_and_loads t s form_same ∙ form.1 ∙ last) (fifth_same small all.fifth) (sixth_same ∙ all.sixth)

  -- ---- the floor

  hauls_cost : (rival : ℕ → Bool) → service_cost (instance_of t) rival ≡ service_cost (instance_of s) rival
  unfolding instance_of instance_by
  hauls_cost rival =
      same_service (instance_of t) (instance_of s) rival yards_same farms_same (λ i j facility client.
      ap₂ (λ x y. loads_of x * y) (loads_same j (omega (arith, farms_same))) (haul_same i j (omega (arith, yards_same)) (omega (arith, farms_same))))

  equal : (i : ℕ) → i < (instance_of t).facilities → (instance_of t).opening i ≡ amount
  unfolding instance_of instance_by fee
  equal i l = ap (λ (r : Record). r.amount) (w.yard_records i (omega (arith, yards_same)))

  -- "sum to at most k times L and the hauls of any non-empty set of at most k yards"
  pub under_limited : (offers : List ℕ) (sum : ℕ) → offering t offers ≡ accepted sum
      → (k : ℕ) (rival : ℕ → Bool) → any (yards s) rival ≡ true → count (yards s) rival ≤ k → sum ≤ k * amount + service_cost (instance_of s) rival
  under_limited offers sum told k rival some few =
      let p = passed t offers sum told in
      let bound = floor_equal (instance_of t) (amount_at offers) amount k equal p.not_overbid rival
      (rw (facilities_are t, yards_same) some) (rw (facilities_are t, yards_same) few) in
      omega (arith, bound, p.sum_is, hauls_cost rival)
