-- Laws of the two calls: their cases, and that the change is the difference of two full costs.
use Prim.Native.Nat.{ℕ, ◌+◌, ◌^◌, ◌≤◌, ◌<◌}
use native.Mathlib.Omega.{arith}
use mathlib.Core.Path.{◌≡◌, sym, ap, ◌∙◌}
use mathlib.Core.Bool.{true, false, ◌&&◌}
use mathlib.Core.List.{List}
use borrow.Author.Tests.{le-leb, leb-true, lt-ltb, le-ltb, ltb-true}
use lib.Dec.{leb}
use lib.IntN.{ℤ, pos, ◌-ℤ◌}
use Rattle.model.specs.Sets.{count, member, minus, without}
use Rattle.model.specs.Instance.{Instance, total_cost}
use Rattle.model.specs.Closing.{cost_at, cost_elsewhere, closing_change}
use Rattle.model.specs.Answers.{accepted, refused}
use Rattle.model.proofs.AnswerLaws.{same_result, asked, passed_first}
use Rattle.model.proofs.Bools.{and_left, and_right, and_both, same_test}
use Rattle.model.proofs.SetLaws.{member_without, member_below, some_member, member_some, without_le, count_without}
use Rattle.model.proofs.LeastLaws.{any_counted, counted_any}
use Rattle.model.proofs.CostLaws.{total_cong}
use Rattle.model.proofs.ClosingLaws.{closing_change_lem}
use Rattle.questions.specs.Sheet.{fee, instance_by, instance_of}
use Rattle.questions.specs.Reading.{counts, reading}
use Rattle.questions.proofs.AcceptedLaws.{shape_of, instance_is, accepts}
use Rattle.stretch.specs.Stretch.{stretch}
use Rattle.nearest.specs.Nearest.{Nearest}
use Rattle.nearest.specs.Nearest.{near, second_on}
use Rattle.plan_area.proofs.FarmNearestLaws.{farm_second}
use Rattle.price.specs.Pricing.{question8}
use Rattle.std.specs.Prelude.{Result}
use Rattle.refusal.specs.declared.Refusal.{Refusal}
use Rattle.refusal.specs.Numbers.{answer_of}
use Rattle.shut.specs.Shutting.{second_of, seconding, question14, shutting, IsDifference}

-- ---- a farm's second yard

module _ (s : List ℕ) (set farm : ℕ) where
  pub second_unread : (k : ℕ) → reading s ≡ refused k → refused k ≡ seconding s set farm
  unfolding seconding
  second_unread k e = rw e

  module _ (m n : ℕ) (e : reading s ≡ accepted (counts m n)) where
    pub second_marked : question8 m set ≡ false → refused 8 ≡ seconding s set farm
    unfolding seconding
    second_marked q = rw (e, q)

    module _ (q : question8 m set ≡ true) where
      tells : (r : Nearest) → r ≡ second_of (instance_by s m n) set farm → accepted r ≡ seconding s set farm
      unfolding seconding
      tells r h = rw (e, q) (ap accepted (h ∙ ap (λ I. second_of I set farm) (instance_is (accepts s m n e).has)))

      pub no_farm : n ≤ farm → accepted (near false 0 0) ≡ seconding s set farm
      unfolding second_of instance_by
      no_farm above = tells (near false 0 0) (rw (le-ltb farm n above))

      pub second_told : farm < n → (hauls : List ℕ) (r : Nearest) → hauls ≡ stretch s m farm → r ≡ second_on s hauls set
          → accepted (near r.found r.yard r.haul) ≡ seconding s set farm
      unfolding second_of instance_by
      second_told below hauls r part h =
          tells r (h ∙ ap (λ x. second_on s x set) part ∙ farm_second s m n farm (shape_of (accepts s m n e).has) below set ∙ rw (lt-ltb farm n below))

-- ---- question 14, of a set that question 8 accepts: without the yard something is left

pub left_over : (m set yard : ℕ) → question8 m set ≡ true → (member set yard && leb 1 (without set yard)) ≡ question14 m set yard
unfolding question14 question8
left_over m set yard q = same_test to from
  where
    small : set < 2 ^ m
    small = ltb-true set (2 ^ m) (and_right (leb 1 set) _ q)

    less : without set yard < 2 ^ m
    less = omega (arith, small, without_le set yard)

    to : (member set yard && leb 1 (without set yard)) ≡ true → member set yard && leb 2 (count m (member set)) ≡ true
    to h =
        let open_yard = and_left (member set yard) _ h in
        let some = some_member m (without set yard) less (leb-true 1 _ (and_right (member set yard) _ h)) in
        let one = counted_any m (member (without set yard)) some in
        and_both open_yard (le-leb 2 (count m (member set)) (omega (arith, count_without m set yard (member_below m set yard small open_yard) open_yard)))

    from : member set yard && leb 2 (count m (member set)) ≡ true → (member set yard && leb 1 (without set yard)) ≡ true
    from h =
        let open_yard = and_left (member set yard) _ h in
        let two : 2 ≤ count m (member set) = leb-true 2 _ (and_right (member set yard) _ h) in
        let left = count_without m set yard (member_below m set yard small open_yard) open_yard in
        and_both open_yard (le-leb 1 (without set yard) (member_some m (without set yard) (any_counted m (member (without set yard)) (omega arith))))

-- ---- what shutting a yard changes

module _ (s : List ℕ) (set yard : ℕ) where
  pub shut_unread : (k : ℕ) → reading s ≡ refused k → refused k ≡ shutting s set yard
  unfolding shutting
  shut_unread k e = rw e

  module _ (m n : ℕ) (e : reading s ≡ accepted (counts m n)) where
    pub shut_marked : question8 m set ≡ false → refused 8 ≡ shutting s set yard
    unfolding shutting
    shut_marked q = rw (e, q)

    module _ (q : question8 m set ≡ true) where
      pub not_shut : question14 m set yard ≡ false → refused 14 ≡ shutting s set yard
      unfolding shutting
      not_shut h = rw (e, q, h)

      module _ (h : question14 m set yard ≡ true) where
        -- the yard is one of the sheet's
        pub yard_there : yard < m
        unfolding question8 question14
        yard_there = member_below m set yard (ltb-true set (2 ^ m) (and_right (leb 1 set) _ q)) (and_left (member set yard) _ h)

        pub shut_told : (amount there elsewhere : ℕ) (change : ℤ) → amount ≡ fee s yard → there ≡ cost_at (instance_by s m n) (member set) yard
            → elsewhere ≡ cost_elsewhere (instance_by s m n) (member set) yard → change ≡ pos elsewhere -ℤ pos (amount + there)
            → accepted change ≡ shutting s set yard
        unfolding shutting closing_change instance_by
        shut_told amount there elsewhere change ef et ee ec =
            let has = (accepts s m n e).has in
            let is : change ≡ closing_change (instance_by s m n) (member set) yard = ec ∙ rw (et, ee, ef) in
            rw (e, q, h) (ap accepted (is ∙ ap (λ I. closing_change I (member set) yard) (instance_is has)))

  -- and back: an accepted call passed its questions
  pub record Passed (change : ℤ) : Type 0 where
    pub yards_read_lem : ℕ
    pub farms_read_lem : ℕ
    pub read : reading s ≡ accepted (counts yards_read_lem farms_read_lem)
    pub marked : question8 yards_read_lem set ≡ true
    pub can_shut : question14 yards_read_lem set yard ≡ true
    pub change_is : change ≡ closing_change (instance_of s) (member set) yard

  pub shut_passed : (change : ℤ) → shutting s set yard ≡ accepted change → Passed change
  unfolding shutting
  shut_passed change e =
      let read = passed_first (reading s) _ change e in
      let eighth = asked (question8 read.0.yards set) 8 _ change read.2 in
      let last = asked (question14 read.0.yards set yard) 14 _ change eighth.1 in
      record {
        yards_read_lem = read.0.yards;
        farms_read_lem = read.0.farms;
        read = read.1;
        marked = eighth.0;
        can_shut = last.0;
        change_is = sym (same_result last.1);
      }

-- of m facilities, the change is the difference of the total costs
pub differs : (I : Instance) (m set yard : ℕ) → I.facilities ≡ m → question8 m set ≡ true → question14 m set yard ≡ true
    → closing_change I (member set) yard ≡ pos (total_cost I (member (without set yard))) -ℤ pos (total_cost I (member set))
unfolding question8 question14
differs I m set yard e q h =
    let open_yard = and_left (member set yard) _ h in
    let two = leb-true 2 _ (and_right (member set yard) _ h) in
    let below = member_below m set yard (ltb-true set (2 ^ m) (and_right (leb 1 set) _ q)) open_yard in
    closing_change_lem I (member set) (rw e two) yard (rw e below) open_yard
    ∙ ap (λ x. pos x -ℤ pos (total_cost I (member set))) (sym (total_cong I (member (without set yard)) (minus (member set) yard) (λ i l. member_without set yard i)))

-- "It equals the full price of the set without the yard less that of the set."
pub is_difference : (s : List ℕ) (set yard : ℕ) (r : Result ℤ Refusal) → answer_of r ≡ shutting s set yard → IsDifference s set yard r
unfolding instance_by
is_difference s set yard r h cents e =
    let p = shut_passed s set yard cents (sym h ∙ ap answer_of e) in
    let same_m = ap (λ (I : Instance). I.facilities) (sym (instance_is (accepts s p.yards_read_lem p.farms_read_lem p.read).has)) in
    p.change_is ∙ differs (instance_of s) p.yards_read_lem set yard same_m p.marked p.can_shut

-- both clauses, from the answer
pub shut_answers : (s : List ℕ) (set yard : ℕ) (r : Result ℤ Refusal) → answer_of r ≡ shutting s set yard → (answer_of r ≡ shutting s set yard) × IsDifference s set yard r
shut_answers s set yard r h = (h, is_difference s set yard r h)
