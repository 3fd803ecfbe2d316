-- What a buyer reads off the two answers: of an accepted call for a second yard which yard it is, of an accepted change what pricing writes before and
-- after.
use Prim.Native.Nat.{ℕ, ◌^◌, ◌≤◌, ◌<◌}
use native.Mathlib.Omega.{arith}
use mathlib.Core.Path.{◌≡◌, refl, sym, ◌∙◌}
use mathlib.Core.Bool.{true, false}
use mathlib.Core.List.{List}
use borrow.Author.Tests.{lt-ltb, le-ltb, ltb-true}
use lib.Dec.{leb, ltb}
use lib.IntN.{ℤ, pos, ◌-ℤ◌}
use Rattle.model.specs.Least.{any}
use Rattle.model.specs.Sets.{count, member, without}
use Rattle.model.specs.Instance.{Instance, assigned, total_cost}
use Rattle.model.specs.Closing.{others, second, second_cost}
use Rattle.model.specs.Answers.{accepted}
use Rattle.model.proofs.Bools.{cases, and_right, and_both}
use Rattle.model.proofs.AnswerLaws.{same_result, asked, passed_first}
use Rattle.model.proofs.SetLaws.{without_le}
use Rattle.model.proofs.CostLaws.{Assigned, assigned_none}
use Rattle.model.proofs.ClosingLaws.{no_other, some_other, second_least, second_in_lem, second_cost_lem}
use Rattle.record.specs.Records.{amount_end}
use Rattle.questions.specs.Sheet.{yards, farm_byte, instance_of}
use Rattle.questions.specs.Reading.{reading}
use Rattle.questions.proofs.AcceptedLaws.{door, facilities_read}
use Rattle.questions.proofs.CostBounds.{total_fits}
use Rattle.nearest.specs.Nearest.{Nearest}
use Rattle.nearest.specs.Nearest.{near}
use Rattle.plan_area.specs.Plan.{question9}
use Rattle.price.specs.Pricing.{Plan, plan, question8, pricing}
use Rattle.price.proofs.PricingLaws.{marked, priced_plan}
use Rattle.std.specs.Prelude.{Ok}
use Rattle.shut.specs.Shutting.{second_of, seconding, question14, shutting}
use Rattle.shut.proofs.ShuttingLaws.{left_over, shut_passed, is_difference}

-- ---- a farm's second yard

-- an open yard that is not the farm's own; of all others none is nearer, of those as near none has a lower fee, and of those none a lower number
pub record SecondTo (I : Instance) (set farm : ℕ) (r : Nearest) : Type 0 where
  pub is_found : r.found ≡ true
  pub is_open : member set r.yard ≡ true
  pub is_other : ¬ (assigned I (member set) farm ≡ r.yard)
  pub yard_is : Assigned I (others I (member set) farm) farm r.yard
  pub haul_is : r.haul ≡ I.service r.yard farm

no_second : (I : Instance) (set farm : ℕ) → any I.facilities (member set) ≡ true → count I.facilities (member set) ≤ 1
    → second_of I set farm ≡ near false 0 0
unfolding second_of second second_cost
no_second I set farm some one =
    let none = no_other I (member set) farm some one in
    let zeros = assigned_none I (others I (member set) farm) farm none in
    cases (ltb farm I.clients) (λ e. rw (e, none, zeros.0, zeros.1)) (λ e. rw e)

module _ (s : List ℕ) (set farm : ℕ) (r : Nearest) (e : seconding s set farm ≡ accepted r) where
  told : r ≡ second_of (instance_of s) set farm
  unfolding seconding
  told =
      let read = passed_first (reading s) _ r e in
      sym (same_result (asked (question8 read.0.yards set) 8 _ r read.2).1)

  -- where two or more are open
  pub second_sends : farm < (instance_of s).clients → 2 ≤ count (instance_of s).facilities (member set) → SecondTo (instance_of s) set farm r
  unfolding second_of
  second_sends below two =
      let I = instance_of s in
      let S = member set in
      let other = second_in_lem I S two farm in
      rw (told, lt-ltb farm I.clients below) (record {
        is_found = some_other I S two farm;
        is_open = other.1;
        is_other = other.2;
        yard_is = second_least I S two farm;
        haul_is = sym (second_cost_lem I S two farm);
      })

  -- "or none where one is open"
  pub none_where_one : count (instance_of s).facilities (member set) ≤ 1 → r ≡ near false 0 0
  unfolding seconding
  none_where_one one =
      let read = passed_first (reading s) _ r e in
      let good = (asked (question8 read.0.yards set) 8 _ r read.2).0 in
      let some : any (instance_of s).facilities (member set) ≡ true =
      rw (facilities_read s read.0.yards read.0.farms read.1) (marked read.0.yards set good).0 in
      told ∙ no_second (instance_of s) set farm some one

  -- a farm that the sheet has not
  pub none_beyond : (instance_of s).clients ≤ farm → r ≡ near false 0 0
  unfolding second_of
  none_beyond above = told ∙ rw (le-ltb farm (instance_of s).clients above)

-- ---- what shutting a yard changes

-- without the yard question 8 still accepts the set
still_marked : (m set yard : ℕ) → question8 m set ≡ true → question14 m set yard ≡ true → question8 m (without set yard) ≡ true
unfolding question8
still_marked m set yard q h =
    let small = ltb-true set (2 ^ m) (and_right (leb 1 set) _ q) in
    and_both (and_right (member set yard) _ (left_over m set yard q ∙ h)) (lt-ltb (without set yard) (2 ^ m) (omega (arith, small, without_le set yard)))

-- where pricing writes the plan of the set it also writes that of the set without the yard, and the change is the difference of the two
-- totals, which the four bytes of an amount hold
pub shut_prices : (s : List ℕ) (set yard : ℕ) (change : ℤ) → shutting s set yard ≡ accepted change
    → (room : ℕ) (p : Plan) → pricing s set room ≡ accepted p
    → (open_total : ℕ) × (shut_total : ℕ) × (p ≡ plan (instance_of s) (farm_byte s (yards s)) set open_total 0)
    × (pricing s (without set yard) room ≡ accepted (plan (instance_of s) (farm_byte s (yards s)) (without set yard) shut_total 0))
    × (open_total < amount_end) × (shut_total < amount_end) × (change ≡ pos shut_total -ℤ pos open_total)
unfolding pricing
shut_prices s set yard change e room p h =
    let c = shut_passed s set yard change e in
    let ninth = asked (question9 c.yards_read_lem c.farms_read_lem room) 9 _ p (rw (c.read, c.marked) at h) in (
      total_cost (instance_of s) (member set),
      total_cost (instance_of s) (member (without set yard)),
      sym (same_result ninth.1),
      priced_plan s (without set yard) room c.yards_read_lem c.farms_read_lem c.read (still_marked c.yards_read_lem set yard c.marked c.can_shut) ninth.0,
      total_fits (instance_of s) (door s c.yards_read_lem c.farms_read_lem c.read) (member set),
      total_fits (instance_of s) (door s c.yards_read_lem c.farms_read_lem c.read) (member (without set yard)),
      is_difference s set yard (Ok change) (sym e) change refl,
    )
