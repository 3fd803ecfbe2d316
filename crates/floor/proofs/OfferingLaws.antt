-- Laws of the call: its cases, and that an accepted sum is a floor.
use Prim.Native.Nat.{ℕ, ◌*◌, ◌≤◌}
use native.Mathlib.Omega.{arith}
use mathlib.Core.Path.{◌≡◌, sym, ap, ◌∙◌}
use mathlib.Core.Bool.{true, false}
use mathlib.Core.List.{List}
use borrow.Author.Tests.{eq-eqb, ne_eqb, eqb-true}
use lib.ListN.{length}
use Rattle.model.specs.Loops.{all_below}
use Rattle.model.specs.Floor.{feasible, floor}
use Rattle.model.specs.Answers.{accepted, refused}
use Rattle.model.proofs.AnswerLaws.{same_result, asked, passed_first}
use Rattle.model.proofs.FloorLaws.{floor_under}
use Rattle.model.proofs.Bools.{and_left}
use Rattle.record.specs.declared.Record.{Record}
use Rattle.record.specs.Records.{record_at, amount_at}
use Rattle.questions.specs.Sheet.{instance_by, instance_of}
use Rattle.questions.specs.Reading.{counts, reading}
use Rattle.questions.proofs.AcceptedLaws.{instance_is, accepts, facilities_are}
use Rattle.std.specs.Prelude.{Result}
use Rattle.refusal.specs.declared.Refusal.{Refusal}
use Rattle.refusal.specs.Numbers.{answer_of}
use Rattle.floor.specs.Offering.{is_offer, offer_in_place, question15, question16, offering, UnderAll}

-- ---- question 15

pub wrong_length : (n : ℕ) (offers : List ℕ) → ¬ (length offers ≡ 8 * n) → question15 n offers ≡ false
unfolding question15
wrong_length n offers h = rw (ne_eqb (length offers) (8 * n) h)

pub right_length : (n : ℕ) (offers : List ℕ) → length offers ≡ 8 * n → question15 n offers ≡ all_below n (offer_in_place offers)
unfolding question15
right_length n offers h = rw (eq-eqb (length offers) (8 * n) h)

pub offer_read : (offers : List ℕ) (p : ℕ) (r : Record) → r ≡ record_at offers p → is_offer p r ≡ offer_in_place offers p
unfolding offer_in_place
offer_read offers p r e = ap (is_offer p) e

pub long_enough : (n : ℕ) (offers : List ℕ) → question15 n offers ≡ true → 8 * n ≤ length offers
unfolding question15
long_enough n offers h = let e = eqb-true (length offers) (8 * n) (and_left _ (all_below n (offer_in_place offers)) h) in omega arith

-- ---- the call

module _ (s offers : List ℕ) where
  pub unread : (k : ℕ) → reading s ≡ refused k → refused k ≡ offering s offers
  unfolding offering
  unread k e = rw e

  module _ (m n : ℕ) (e : reading s ≡ accepted (counts m n)) where
    pub broken : question15 n offers ≡ false → refused 15 ≡ offering s offers
    unfolding offering
    broken q = rw (e, q)

    module _ (q : question15 n offers ≡ true) where
      -- the test by the counts is that of the sheet
      sixteenth : feasible (instance_by s m n) (amount_at offers) ≡ question16 s offers
      unfolding question16
      sixteenth = ap (λ I. feasible I (amount_at offers)) (instance_is (accepts s m n e).has)

      pub overbids : feasible (instance_by s m n) (amount_at offers) ≡ false → refused 16 ≡ offering s offers
      unfolding offering
      overbids h = rw (e, q, sym sixteenth ∙ h)

      pub told : feasible (instance_by s m n) (amount_at offers) ≡ true → (sum : ℕ) → sum ≡ floor (instance_by s m n) (amount_at offers)
          → accepted sum ≡ offering s offers
      unfolding offering
      told h sum is = rw (e, q, sym sixteenth ∙ h) (ap accepted (is ∙ ap (λ I. floor I (amount_at offers)) (instance_is (accepts s m n e).has)))

  -- and back: an accepted call passed its questions
  pub record Passed (sum : ℕ) : Type 0 where
    pub yards_read_lem : ℕ
    pub farms_read_lem : ℕ
    pub read : reading s ≡ accepted (counts yards_read_lem farms_read_lem)
    pub in_place : question15 farms_read_lem offers ≡ true
    pub not_overbid : feasible (instance_of s) (amount_at offers) ≡ true
    pub sum_is : sum ≡ floor (instance_of s) (amount_at offers)

  pub passed : (sum : ℕ) → offering s offers ≡ accepted sum → Passed sum
  unfolding offering question16
  passed sum e =
      let first = passed_first (reading s) _ sum e in
      let place = asked (question15 first.0.farms offers) 15 _ sum first.2 in
      let last = asked (question16 s offers) 16 _ sum place.1 in
      record {
        yards_read_lem = first.0.yards;
        farms_read_lem = first.0.farms;
        read = first.1;
        in_place = place.0;
        not_overbid = last.0;
        sum_is = sym (same_result last.1);
      }

  -- "no more than the full cost of any non-empty set"
  pub under_all : (r : Result ℕ Refusal) → answer_of r ≡ offering s offers → UnderAll s r
  under_all r h sum e rival some =
      let p = passed sum (sym h ∙ ap answer_of e) in
      rw p.sum_is (floor_under (instance_of s) (amount_at offers) rival (rw (facilities_are s) some) p.not_overbid)

  -- both clauses, from the answer
  pub answers : (r : Result ℕ Refusal) → answer_of r ≡ offering s offers → (answer_of r ≡ offering s offers) × UnderAll s r
  answers r h = (h, under_all r h)
