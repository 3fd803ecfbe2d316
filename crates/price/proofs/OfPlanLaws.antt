-- What is promised of the set in the area: it follows from what holds of the plan's own set, and that follows from it; and pricing
-- keeps the set given, and sends each farm to its nearest yard of it.
use Prim.Native.Nat.{ℕ, ◌^◌, ◌≤◌, ◌<◌}
use native.Mathlib.Omega.{arith}
use mathlib.Core.Path.{◌≡◌, refl, sym, ap, ap₂, subst, ◌∙◌}
use mathlib.Core.Bool.{true}
use mathlib.Core.List.{List}
use borrow.Author.Tests.{ltb-true}
use lib.ListN.{length}
use lib.Dec.{leb}
use Rattle.std.specs.Prelude.{Result, Ok, Err}
use Rattle.model.specs.Sets.{member}
use Rattle.model.specs.Instance.{Instance, total_cost}
use Rattle.model.proofs.Bools.{and_right}
use Rattle.record.specs.Records.{splice}
use Rattle.questions.specs.Bounds.{most_yards}
use Rattle.model.specs.Answers.{Answer, accepted}
use Rattle.questions.specs.Sheet.{yards, farm_byte, instance_of}
use Rattle.questions.specs.Reading.{counts, reading}
use Rattle.model.proofs.AnswerLaws.{same_result, not_both, asked, passed_first}
use Rattle.questions.proofs.AcceptedLaws.{WithinBounds, door, facilities_read}
use Rattle.plan_area.specs.Plan.{plan_bytes, question9, plan_set}
use Rattle.price.specs.declared.Written.{Written}
use Rattle.refusal.specs.declared.Refusal.{Refusal}
use Rattle.refusal.specs.Numbers.{number_of, answer_by, answer_of}
use Rattle.price.specs.Pricing.{Plan, plan, answer, area_after, OfPlan, question8, pricing, SetKept}
use Rattle.price.proofs.PricingLaws.{answered, marked}
use Rattle.plan_area.proofs.PlanSetLaws.{plan_set_lem}
use Rattle.plan_area.proofs.PlanFarmLaws.{FarmsSent, farms_sent}

-- p is the plan of this set of the instance's facilities, which are 32 at most
pub record PlanOf (set : ℕ) (p : Plan) : Type 0 where
  pub instance : Instance
  pub byte3 : ℕ → ℕ
  pub total : ℕ
  pub moves : ℕ
  pub is : p ≡ plan instance byte3 set total moves
  pub few : instance.facilities ≤ most_yards
  pub small : set < 2 ^ instance.facilities

-- ---- the set in the area, and in the bytes that the call says it wrote

module _ (outcome : Answer Plan) (p : Plan) (set : ℕ) (e : outcome ≡ accepted p) (f : PlanOf set p) (area : List ℕ) where
  pub set_read_off : plan_set (area_after outcome area) (length p.bytes) ≡ set
  unfolding area_after
  set_read_off =
      let bytes = plan_bytes f.instance f.byte3 set f.total f.moves in
      let there : area_after outcome area ≡ splice area 0 bytes =
      ap (λ o. area_after o area) e ∙ ap (λ (q : Plan). splice area 0 q.bytes) f.is in
      ap₂ plan_set there (ap (λ (q : Plan). length q.bytes) f.is) ∙ plan_set_lem f.instance f.byte3 set f.total f.moves area f.few f.small

-- the call answers as the outcome says, by the number of each refusal
module _ {E : Type 0} (number : E → ℕ) (outcome : Answer Plan) (r : Result Written E) (area next : List ℕ)
    (says : answer_by number r ≡ answer outcome) (leaves : next ≡ area_after outcome area) where
  -- what holds of the set of every plan that a call can make holds of the set that is read off the area at its exit
  pub of_plan : (P : ℕ → Type 0) → ((p : Plan) → outcome ≡ accepted p → (set : ℕ) × PlanOf set p × P set) → OfPlan r next P
  of_plan P made w e =
      let a = answered outcome _ (sym (ap (answer_by number) e) ∙ says) in
      let f = made a.0 a.1 in
      let there : plan_set next w.bytes ≡ f.0 =
      ap₂ plan_set leaves (ap (λ (x : Written). x.bytes) a.2) ∙ set_read_off outcome a.0 f.0 a.1 f.1 area in
      subst P (sym there) f.2

  -- and what is promised of an accepted call holds of its plan's own set, whatever moves were made, or none
  pub promised : (P : ℕ → Type 0) → OfPlan r next P → (p : Plan) → outcome ≡ accepted p → (set : ℕ) → PlanOf set p → P set
  unfolding answer
  promised P h p e set f = go r says h
    where
      go : (q : Result Written E) → answer_by number q ≡ answer outcome → OfPlan q next P → P set
      go (Ok w) told hold =
          let long : w.bytes ≡ length p.bytes = ap (λ (x : Written). x.bytes) (same_result (told ∙ ap answer e)) in
          subst P (ap₂ plan_set leaves long ∙ set_read_off outcome p set e f area) (hold w refl)
      go (Err refusal) told hold = absurd (not_both (sym (told ∙ ap answer e)))

-- and used where a refusal is a number already, that of a question or not
pub of_plan_numbered : (outcome : Answer Plan) (r : Result Written ℕ) (area next : List ℕ) → answer_by (λ k. k) r ≡ answer outcome → next ≡ area_after outcome area
    → (P : ℕ → Type 0) → ((p : Plan) → outcome ≡ accepted p → (set : ℕ) × PlanOf set p × P set) → OfPlan r next P
of_plan_numbered = of_plan (λ k. k)

-- ---- pricing

module _ (s : List ℕ) (set room : ℕ) (p : Plan) (h : pricing s set room ≡ accepted p) where
  -- a plan is made where the questions are answered yes
  priced_when : (m : ℕ) × (n : ℕ) × (reading s ≡ accepted (counts m n)) × (question8 m set ≡ true)
      × (p ≡ plan (instance_of s) (farm_byte s (yards s)) set (total_cost (instance_of s) (member set)) 0)
  unfolding pricing
  priced_when =
      let r = passed_first (reading s) _ p h in
      let c = r.0 in
      let q8 = asked (question8 c.yards set) 8 _ p r.2 in
      let q9 = asked (question9 c.yards c.farms room) 9 _ p q8.1 in
      (c.yards, c.farms, r.1, q8.0, sym (same_result q9.1))

  within : WithinBounds (instance_of s)
  within = let r = priced_when in door s r.0 r.1 r.2

  as_many : (instance_of s).facilities ≡ priced_when.0
  as_many = let r = priced_when in facilities_read s r.0 r.1 r.2

  -- it is that of the set given
  pub priced_set : PlanOf set p
  unfolding question8
  priced_set =
      let r = priced_when in
      record {
        instance = instance_of s;
        byte3 = farm_byte s (yards s);
        total = total_cost (instance_of s) (member set);
        moves = 0;
        is = r.4;
        few = within.few_facilities;
        small = rw as_many (ltb-true set (2 ^ r.0) (and_right (leb 1 set) _ r.3));
      }

  -- and sends each farm to its nearest yard of the set
  priced_farms : (area : List ℕ) → FarmsSent s (area_after (pricing s set room) area) set
  unfolding area_after
  priced_farms area =
      let r = priced_when in
      farms_sent s within set _ _ (rw as_many (marked r.0 set r.3).0) area _ (ap (λ o. area_after o area) (h ∙ ap accepted r.4))

-- where pricing sends the farms, from its two equations
pub pricing_sends : (s : List ℕ) (set : ℕ) (r : Result Written Refusal) (area next : List ℕ)
    → answer_of r ≡ answer (pricing s set (length area)) → next ≡ area_after (pricing s set (length area)) area → OfPlan r next (FarmsSent s next)
pricing_sends s set r area next says leaves =
    of_plan number_of (pricing s set (length area)) r area next says leaves (FarmsSent s next)
    (λ p e. (set, priced_set s set (length area) p e, rw leaves (priced_farms s set (length area) p e area)))

-- all that pricing promises, from its two equations
pub pricing_promises : (s : List ℕ) (set : ℕ) (r : Result Written Refusal) (area next : List ℕ)
    → (answer_of r ≡ answer (pricing s set (length area))) × (next ≡ area_after (pricing s set (length area)) area)
    → (answer_of r ≡ answer (pricing s set (length area))) × ((next ≡ area_after (pricing s set (length area)) area) × SetKept set r next)
pricing_promises s set r area next h = (
  h.0,
  (
    h.1,
    of_plan number_of (pricing s set (length area)) r area next h.0 h.1 (λ kept. kept ≡ set)
        (λ p e. (set, priced_set s set (length area) p e, refl)),
  ),
)

-- a refused call wrote no plan
pub none_written : {E : Type 0} (refusal : E) (area : List ℕ) (P : ℕ → Type 0) → OfPlan (Err refusal) area P
none_written refusal area P w e = absurd (let z : ◌≡◌ {A = ℕ} 0 1 = cc in omega arith)
