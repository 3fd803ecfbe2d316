-- What the calls that write a plan answer and leave in the area, and what pricing a set gives.
use Rattle.std.specs.Prelude.{ℕ, ◌^◌, ◌≡◌, Bool, ◌&&◌, List, length, leb, ltb, Result, Ok}
use Rattle.model.specs.Sets.{member}
use Rattle.model.specs.Instance.{Instance, total_cost}
use Rattle.record.specs.Records.{splice}
use Rattle.model.specs.Answers.{Answer, accepted, refused, ask, after}
use Rattle.questions.specs.Sheet.{yards, farm_byte, instance_of}
use Rattle.questions.specs.Reading.{reading}
use Rattle.plan_area.specs.Plan.{plan_bytes, question9, plan_set}
use Rattle.refusal.specs.declared.Refusal.{Refusal}
use Rattle.price.specs.declared.Written.{Written}

-- "The call returns the bytes written and the moves."
abbrev pub written : ℕ → ℕ → Written
written bytes moves = record { bytes = bytes; moves = moves }

-- a plan: its records as bytes, and the moves made
pub record Plan : Type 0 where
  pub bytes : List ℕ
  pub moves : ℕ

abbrev pub plan : Instance → (ℕ → ℕ) → ℕ → ℕ → ℕ → Plan
plan I byte3 set total moves = record { bytes = plan_bytes I byte3 set total moves; moves = moves }

-- what a call returns for the plan that it makes, or for its refusal
unfoldable pub answer : Answer Plan → Answer Written
answer (accepted p) = accepted (written (length p.bytes) p.moves)
answer (refused k) = refused k

-- What it leaves in the area: the plan's records and behind them what stood there before; "a refused call returns its number alone
-- and the plan area holds what it held before".
unfoldable pub area_after : Answer Plan → List ℕ → List ℕ
area_after (accepted p) area = splice area 0 p.bytes
area_after (refused k) area = area

-- what holds of the set in the area, where the call wrote a plan, whatever it refuses by
abbrev pub OfPlan : {E : Type 0} → Result Written E → List ℕ → (ℕ → Type 0) → Type 0
OfPlan r area P = (w : Written) → r ≡ Ok w → P (plan_set area w.bytes)

-- 8. Does the set, a 32-bit number whose bit i marks yard i, mark at least one yard and none numbered m or above?
unfoldable pub question8 : ℕ → ℕ → Bool
question8 m set = leb 1 set && ltb set (2 ^ m)

-- Pricing the set on the sheet, with an area of so many bytes, asks what reading asks, then 8 and 9. The total is the full cost, the moves 0.
unfoldable pub pricing : List ℕ → ℕ → ℕ → Answer Plan
pricing s set room =
    after (reading s) (λ c. ask (question8 c.yards set) 8 (ask (question9 c.yards c.farms room) 9
    (accepted (plan (instance_of s) (farm_byte s (yards s)) set (total_cost (instance_of s) (member set)) 0))))

-- "A priced list keeps the set given" (demand 2): it is the set in the area.
abbrev pub SetKept : ℕ → Result Written Refusal → List ℕ → Type 0
SetKept set r area = OfPlan r area (λ kept. kept ≡ set)
