-- Laws of the calls that write a plan: what each answers and leaves in the area, and the cases of pricing.
use Prim.Native.Nat.{ℕ, ◌%◌, ◌^◌, ◌≤◌, ◌<◌}
use native.Mathlib.Nat.{mod-eq_of_lt}
use native.Mathlib.Omega.{arith}
use mathlib.Core.Path.{◌≡◌, refl, sym, ap, ap₂, subst, ◌∙◌}
use mathlib.Core.Bool.{true, false}
use mathlib.Core.List.{List}
use borrow.Author.Tests.{le-leb, leb-true, lt-ltb, ltb-true}
use lib.ListN.{length}
use lib.Dec.{leb}
use Rattle.std.specs.Prelude.{Result}
use Rattle.model.specs.Least.{any}
use Rattle.model.specs.Sets.{member}
use Rattle.model.specs.Instance.{total_cost}
use Rattle.model.proofs.Bools.{fails, and_left, and_right, and_both}
use Rattle.model.proofs.SetLaws.{some_member, member_some, member_below, below_pow}
use Rattle.record.specs.Records.{splice, amount_end}
use Rattle.model.specs.Answers.{Answer, accepted, refused}
use Rattle.questions.specs.Sheet.{yards, farm_byte, instance_by, instance_of}
use Rattle.questions.specs.Shape.{Shape}
use Rattle.questions.specs.Reading.{counts, reading}
use Rattle.model.proofs.AnswerLaws.{same_result, not_both}
use Rattle.questions.proofs.AcceptedLaws.{shape_of, instance_is, accepts, door}
use Rattle.questions.proofs.CostBounds.{total_fits}
use Rattle.plan_area.specs.declared.plan.Total.{Total}
use Rattle.plan_area.specs.declared.plan.Total.TheVariants.{FullCost}
use Rattle.plan_area.specs.Plan.{plan_bytes, question9, total_amount, writing}
use Rattle.price.specs.declared.Written.{Written}
use Rattle.refusal.specs.Numbers.{answer_of}
use Rattle.price.specs.Pricing.{written, Plan, plan, answer, area_after, question8, pricing}
use Rattle.refusal.specs.declared.Refusal.{Refusal}
use Rattle.plan_area.proofs.PlanRecordLaws.{fits_within, writes_plan}

-- ---- what a call answers and leaves: its number and the area as it was, or the plan at the area's front

module _ (outcome : Answer Plan) (area : List ℕ) where
  pub refuses : (k : ℕ) → outcome ≡ refused k → (refused k ≡ answer outcome) × (area ≡ area_after outcome area)
  unfolding answer area_after
  refuses k e = rw e (refl, refl)

  pub makes : (p : Plan) (next : List ℕ) (bytes moves : ℕ) → outcome ≡ accepted p → bytes ≡ length p.bytes → moves ≡ p.moves
      → next ≡ splice area 0 p.bytes → (accepted (written bytes moves) ≡ answer outcome) × (next ≡ area_after outcome area)
  unfolding answer area_after
  makes p next bytes moves e b v put = rw (e, b, v, put) (refl, refl)

-- ---- and back: a call that answers with bytes and moves made a plan of them

pub answered : (outcome : Answer Plan) (r : Written) → accepted r ≡ answer outcome
    → (p : Plan) × (outcome ≡ accepted p) × (r ≡ written (length p.bytes) p.moves)
unfolding answer
answered (accepted p) r h = (p, refl, same_result h)
answered (refused k) r h = absurd (not_both h)

-- ---- question 8 in readable form, both ways: some yard below m is marked, and none from m on

pub marked : (m set : ℕ) → question8 m set ≡ true → (any m (member set) ≡ true) × ((i : ℕ) → m ≤ i → member set i ≡ false)
unfolding question8
marked m set h =
    let some = leb-true 1 set (and_left _ _ h) in
    let small = ltb-true set (2 ^ m) (and_right (leb 1 set) _ h) in
    (some_member m set small some, λ i above. fails (λ e. omega (arith, member_below m set i small e)))

pub marked_when : (m set : ℕ) → set < 2 ^ 32 → any m (member set) ≡ true → ((i : ℕ) → m ≤ i → member set i ≡ false) → question8 m set ≡ true
unfolding question8
marked_when m set bits some none = and_both (le-leb 1 set (member_some m set some)) (lt-ltb set (2 ^ m) (below_pow 32 m set bits none))

-- ---- the cases of pricing

module _ (s : List ℕ) (set room : ℕ) where
  pub unread : (k : ℕ) → reading s ≡ refused k → pricing s set room ≡ refused k
  unfolding pricing
  unread k e = rw e

  module _ (m n : ℕ) (e : reading s ≡ accepted (counts m n)) where
    pub badly_marked : question8 m set ≡ false → pricing s set room ≡ refused 8
    unfolding pricing
    badly_marked q = rw (e, q)

    pub no_room : question8 m set ≡ true → question9 m n room ≡ false → pricing s set room ≡ refused 9
    unfolding pricing
    no_room q h = rw (e, q, h)

    pub priced_plan : question8 m set ≡ true → question9 m n room ≡ true
        → pricing s set room ≡ accepted (plan (instance_of s) (farm_byte s (yards s)) set (total_cost (instance_of s) (member set)) 0)
    unfolding pricing
    priced_plan q h = rw (e, q, h)

-- ---- what the writer leaves, of a sheet and an area that are long enough

pub writes_of : (s : List ℕ) (m n set : ℕ) (total : Total) (moves room : ℕ) → Shape s m n → question9 m n room ≡ true
    → writing s m n set total moves room ≡ plan_bytes (instance_by s m n) (farm_byte s m) set (total_amount total (total_cost (instance_by s m n) (member set))) moves
writes_of s m n set total moves room f q =
    writes_plan s m n set total moves room (fits_within m n room f.some_yards f.few_yards f.few_farms ∙ q) f.room

module _ (s : List ℕ) (m n set : ℕ) (e : reading s ≡ accepted (counts m n)) where
  -- a full cost fits an amount, so that the record of the total has all of it
  total_is : total_amount FullCost (total_cost (instance_by s m n) (member set)) ≡ total_cost (instance_of s) (member set)
  total_is =
      ap (λ I. total_cost I (member set) % amount_end) (instance_is (accepts s m n e).has)
      ∙ mod-eq_of_lt (total_fits (instance_of s) (door s m n e) (member set))

  -- pricing that passes its questions writes the plan of the set
  pub prices : (area next : List ℕ) (bytes : ℕ) → question8 m set ≡ true → question9 m n (length area) ≡ true
      → bytes ≡ length (writing s m n set FullCost 0 (length area)) → next ≡ splice area 0 (writing s m n set FullCost 0 (length area))
      → (accepted (written bytes 0) ≡ answer (pricing s set (length area))) × (next ≡ area_after (pricing s set (length area)) area)
  prices area next bytes q h long put =
      let form = (accepts s m n e).has in
      let total = total_amount FullCost (total_cost (instance_by s m n) (member set)) in
      let is = writes_of s m n set FullCost 0 (length area) (shape_of form) h
      ∙ ap₂ (λ I b. plan_bytes I b set total 0) (instance_is form) (ap (farm_byte s) (sym form.yards_are))
      ∙ ap (λ (x : ℕ). plan_bytes (instance_of s) (farm_byte s (yards s)) set x 0) total_is in
      makes (pricing s set (length area)) area _ next bytes 0 (priced_plan s set (length area) m n e q h)
      (long ∙ ap length is) refl (put ∙ ap (splice area 0) is)

-- what a call answers and leaves, by another name for its outcome
pub as_outcome : {outcome other : Answer Plan} → other ≡ outcome → (r : Result Written Refusal) (area next : List ℕ)
    → (answer_of r ≡ answer other) × (next ≡ area_after other area) → (answer_of r ≡ answer outcome) × (next ≡ area_after outcome area)
as_outcome e r area next h = subst (λ o. (answer_of r ≡ answer o) × (next ≡ area_after o area)) e h
