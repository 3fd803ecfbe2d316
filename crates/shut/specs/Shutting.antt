-- What if this yard shuts (document 02, paper 5): what the two calls answer.
use Rattle.std.specs.Prelude.{ℕ, ◌≡◌, Bool, false, cond, ◌&&◌, List, leb, ltb, ℤ, pos, ◌-ℤ◌, Option, Result, Ok, Err}
use Rattle.model.specs.Sets.{count, member, without}
use Rattle.model.specs.Instance.{Instance, total_cost}
use Rattle.model.specs.Closing.{closing_change}
use Rattle.model.specs.Answers.{Answer, accepted, refused, ask, after}
use Rattle.questions.specs.Sheet.{instance_of}
use Rattle.questions.specs.Reading.{reading}
use Rattle.refusal.specs.declared.Refusal.{Refusal}
use Rattle.refusal.specs.Numbers.{number_of}
use Rattle.nearest.specs.declared.Nearest as declared
use Rattle.nearest.specs.Nearest.{Nearest, near, told, second_in}
use Rattle.price.specs.Pricing.{question8}

-- ---- a farm's second yard

-- document 01's answer in each case of the code's result
abbrev pub second_answer : Result (Option declared.Nearest) Refusal → Answer Nearest
second_answer (Ok nearest) = accepted (told nearest)
second_answer (Err refusal) = refused (number_of refusal)

-- "Each farm's second cheapest open yard .. with the haul there, ties as in paper 1, or none where one is open"; a farm n or above has none.
unfoldable pub second_of : Instance → ℕ → ℕ → Nearest
second_of I set farm = cond (ltb farm I.clients) (second_in I (member set) farm) (near false 0 0)

-- the call asks what reading asks, then 8
unfoldable pub seconding : List ℕ → ℕ → ℕ → Answer Nearest
seconding s set farm = after (reading s) (λ c. ask (question8 c.yards set) 8 (accepted (second_of (instance_of s) set farm)))

-- ---- what shutting a yard changes

-- "14 when the named yard is not in the set or is its only yard": of m yards, is it in the set beside another?
unfoldable pub question14 : ℕ → ℕ → ℕ → Bool
question14 m set yard = member set yard && leb 2 (count m (member set))

-- the call asks what reading asks, then 8 and 14; the change is "worked out from those pairs, the loads and the yard's fee"
unfoldable pub shutting : List ℕ → ℕ → ℕ → Answer ℤ
shutting s set yard =
    after (reading s) (λ c. ask (question8 c.yards set) 8 (ask (question14 c.yards set yard) 14
    (accepted (closing_change (instance_of s) (member set) yard))))

-- "It equals the full price of the set without the yard less that of the set."
abbrev pub IsDifference : {E : Type 0} → List ℕ → ℕ → ℕ → Result ℤ E → Type 0
IsDifference s set yard r =
    (cents : ℤ) → r ≡ Ok cents
    → cents ≡ pos (total_cost (instance_of s) (member (without set yard))) -ℤ pos (total_cost (instance_of s) (member set))
