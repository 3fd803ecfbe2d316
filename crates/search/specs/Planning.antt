-- The two plans of document 01: the questions that they ask, and the plan that the search reaches.
use Rattle.std.specs.Prelude.{ℕ, Bool, ◌&&◌, List, leb}
use Rattle.model.specs.Instance.{Instance}
use Rattle.model.specs.Answers.{Answer, accepted, ask, after}
use Rattle.questions.specs.Sheet.{yards, farm_byte, instance_of}
use Rattle.questions.specs.Reading.{reading}
use Rattle.plan_area.specs.Plan.{question9}
use Rattle.price.specs.Pricing.{Plan}
use Rattle.search.specs.SearchEnds.{open_end, limited_end, plan_of}

-- the open plan, and the limited plan for k: the set that the search ends in, its total by what the search goes by
unfoldable pub open_plan : Instance → (ℕ → ℕ) → Plan
open_plan I byte3 = plan_of I byte3 (open_end I)

unfoldable pub limited_plan : Instance → (ℕ → ℕ) → ℕ → Plan
limited_plan I byte3 k = plan_of I byte3 (limited_end I k)

-- 7. Is k from 1 to m?
unfoldable pub question7 : ℕ → ℕ → Bool
question7 m k = leb 1 k && leb k m

-- The open plan for the sheet, with an area of so many bytes: it asks what reading asks, then 9.
unfoldable pub open_planning : List ℕ → ℕ → Answer Plan
open_planning s room =
    after (reading s) (λ c. ask (question9 c.yards c.farms room) 9 (accepted (open_plan (instance_of s) (farm_byte s (yards s)))))

-- The limited plan for k: it asks what reading asks, then 7 and 9.
unfoldable pub limited_planning : List ℕ → ℕ → ℕ → Answer Plan
limited_planning s k room =
    after (reading s) (λ c. ask (question7 c.yards k) 7 (ask (question9 c.yards c.farms room) 9
    (accepted (limited_plan (instance_of s) (farm_byte s (yards s)) k))))
