-- What 15 and 16 say in readable words, and what a buyer reads off an accepted sum: it fits four bytes, no total that pricing writes is lower, and a set that
-- costs no more is the cheapest there is.
use Prim.Native.Nat.{ℕ, ◌*◌, ◌≤◌, ◌<◌}
use native.Mathlib.Nat.{le_trans}
use native.Mathlib.Omega.{arith}
use mathlib.Core.Path.{◌≡◌, refl, sym, ◌∙◌}
use mathlib.Core.Bool.{Bool, true, false}
use mathlib.Core.List.{List}
use borrow.Author.Tests.{eqb-true}
use lib.ListN.{length}
use lib.Dec.{eqb}
use Rattle.model.specs.Least.{any}
use Rattle.model.specs.Sets.{member}
use Rattle.model.specs.Instance.{Instance, total_cost}
use Rattle.model.specs.Floor.{excess_at, feasible, floor}
use Rattle.model.specs.Answers.{Answer, accepted, refused, ask, after}
use Rattle.model.proofs.AnswerLaws.{same_result, not_both, asked, passed_first}
use Rattle.model.proofs.Bools.{and_left, and_right}
use Rattle.model.proofs.LoopLaws.{all_at}
use Rattle.model.proofs.LeastLaws.{any_of}
use Rattle.model.proofs.FloorLaws.{feasible_when, not_feasible, overbid, floor_under}
use Rattle.record.specs.Records.{record_of, record_at, amount_at, amount_end}
use Rattle.record.proofs.RecordLaws.{record_is}
use Rattle.questions.specs.Sheet.{yards, fee, farm_byte, instance_by, instance_of}
use Rattle.questions.specs.declared.Counts.{Counts}
use Rattle.questions.specs.Reading.{counts, reading}
use Rattle.questions.proofs.ReadingLaws.{refused_by}
use Rattle.questions.proofs.AcceptedLaws.{WithinBounds, door, facilities_are, facilities_read}
use Rattle.questions.proofs.CostBounds.{total_fits}
use Rattle.plan_area.specs.Plan.{question9}
use Rattle.price.specs.Pricing.{Plan, plan, question8, pricing}
use Rattle.price.proofs.PricingLaws.{marked}
use Rattle.std.specs.Prelude.{Ok}
use Rattle.floor.specs.Offering.{offer_kind, is_offer, offer_in_place, question15, question16, offering, UnderAll}
use Rattle.floor.proofs.OfferingLaws.{passed}

-- ---- what 15 and 16 say

-- record p is the offer of farm p
pub offer_record : (n : ℕ) (offers : List ℕ) → question15 n offers ≡ true → (p : ℕ) → p < n
    → record_at offers p ≡ record_of offer_kind 0 p 0 (amount_at offers p)
unfolding question15 offer_in_place is_offer amount_at
offer_record n offers h p l =
    let r = record_at offers p in
    let all = all_at (offer_in_place offers) n p (and_right (eqb (length offers) (8 * n)) _ h) l in
    let rest = and_right (eqb r.kind offer_kind) _ all in
    let last = and_right (eqb r.yard 0) _ rest in
    record_is r offer_kind 0 p 0 (eqb-true r.kind offer_kind (and_left _ _ all)) (eqb-true r.yard 0 (and_left _ _ rest))
    (eqb-true r.farm p (and_left _ _ last)) (eqb-true r.byte3 0 (and_right (eqb r.farm p) _ last))

module _ (s offers : List ℕ) where
  -- what yard i is offered
  abbrev excess : ℕ → ℕ
  excess i = excess_at (instance_of s) (amount_at offers) i

  module _ (m n : ℕ) (e : reading s ≡ accepted (counts m n)) (q : question15 n offers ≡ true) where
    -- "It is accepted when at every yard the loads times the excess .. sum to at most the fee."
    pub accepted_when : ((i : ℕ) → i < yards s → excess i ≤ fee s i) → offering s offers ≡ accepted (floor (instance_of s) (amount_at offers))
    unfolding offering question16 instance_of instance_by
    accepted_when h = rw (e, q, feasible_when (instance_of s) (amount_at offers) h)

    -- "16 for a yard overbid"
    pub refused_when : (i : ℕ) → i < yards s → fee s i < excess i → offering s offers ≡ refused 16
    unfolding offering question16 instance_of instance_by
    refused_when i l more = rw (e, q, overbid (instance_of s) (amount_at offers) i l more)

  -- and for nothing else
  pub refused_by_16 : offering s offers ≡ refused 16 → (i : ℕ) × (i < yards s) × (fee s i < excess i)
  unfolding offering question16 instance_of instance_by
  refused_by_16 h = go (reading s) refl h
    where
      asked_last : (b c : Bool) → question16 s offers ≡ c → ask b 15 (ask c 16 (accepted (floor (instance_of s) (amount_at offers)))) ≡ refused 16
          → (i : ℕ) × (i < yards s) × (fee s i < excess i)
      asked_last true true f k = absurd (not_both k)
      asked_last true false f k = not_feasible (instance_of s) (amount_at offers) f
      asked_last false c f k = let same : ◌≡◌ {A = ℕ} 15 16 = cc in absurd (omega arith)

      go : (r : Answer Counts) → reading s ≡ r
          → after r (λ c. ask (question15 c.farms offers) 15 (ask (question16 s offers) 16 (accepted (floor (instance_of s) (amount_at offers))))) ≡ refused 16
          → (i : ℕ) × (i < yards s) × (fee s i < excess i)
      go (accepted c) f k = asked_last (question15 c.farms offers) (question16 s offers) refl k
      go (refused j) f k = let same : j ≡ 16 = cc in absurd (omega (arith, (refused_by s j f).1))

-- ---- how high a sum is

-- no more than what all yards cost, which four bytes hold
pub floor_fits : (I : Instance) (v : ℕ → ℕ) → WithinBounds I → feasible I v ≡ true → floor I v < amount_end
floor_fits I v w h =
    let all = any_of I.facilities 0 (λ i. true) w.some_facilities refl in
    omega (arith, floor_under I v (λ i. true) all h, total_fits I w (λ i. true))

pub sum_fits : (s offers : List ℕ) (sum : ℕ) → offering s offers ≡ accepted sum → sum < amount_end
sum_fits s offers sum e =
    let p = passed s offers sum e in
    rw p.sum_is (floor_fits (instance_of s) (amount_at offers) (door s p.yards_read_lem p.farms_read_lem p.read) p.not_overbid)

-- ---- from the promise

module _ {E : Type 0} (s : List ℕ) (sum : ℕ) (under : UnderAll {E = E} s (Ok sum)) where
  -- where pricing writes a plan, its total is no lower
  pub under_prices : (set room : ℕ) (p : Plan) → pricing s set room ≡ accepted p
      → (total : ℕ) × (p ≡ plan (instance_of s) (farm_byte s (yards s)) set total 0) × (sum ≤ total)
  unfolding pricing
  under_prices set room p e =
      let read = passed_first (reading s) _ p e in
      let m = read.0.yards in
      let eighth = asked (question8 m set) 8 _ p read.2 in
      let ninth = asked (question9 m read.0.farms room) 9 _ p eighth.1 in
      let same_m : yards s ≡ m = sym (facilities_are s) ∙ facilities_read s m read.0.farms read.1 in (
        total_cost (instance_of s) (member set),
        sym (same_result ninth.1),
        under sum refl (member set) (rw same_m (marked m set eighth.0).0),
      )

  -- a set that costs no more than the sum is the cheapest there is
  pub cheapest : (ours : ℕ → Bool) → total_cost (instance_of s) ours ≤ sum
      → (rival : ℕ → Bool) → any (yards s) rival ≡ true → total_cost (instance_of s) ours ≤ total_cost (instance_of s) rival
  cheapest ours few rival some = le_trans few (under sum refl rival some)
