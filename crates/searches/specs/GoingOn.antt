-- "Going on without a limit from a stopped set, by the same search, sheet and tariff, ends in the plan that an unbroken search gives, but for the record of
-- moves, and the two counts add up" (document 02, paper 7): what this says of three plans.
use Rattle.std.specs.Prelude.{ℕ, ◌+◌, ◌≡◌, true, false, List, ◌++◌}
use Rattle.model.specs.Answers.{accepted}
use Rattle.questions.specs.Reading.{counts, reading}
use Rattle.plan_area.specs.Plan.{moves_record, question9}
use Rattle.price.specs.Pricing.{Plan}
use Rattle.plan_search.specs.Planning.{SearchPlan}

-- the records of two plans are the same, but for the last, which has the moves
pub record SameButMoves (p q : Plan) : Type 0 where
  pub others : List ℕ
  pub first : p.bytes ≡ others ++ moves_record p.moves
  pub second : q.bytes ≡ others ++ moves_record q.moves

-- the plan where a search was cut, the one of going on from its set, and the one of the unbroken search
pub record GoesOn (cut rest whole : SearchPlan) : Type 0 where
  pub settled : rest.stopped ≡ false
  pub same_set : rest.set ≡ whole.set
  pub same_records : SameButMoves rest.plan whole.plan
  pub counts_add : cut.plan.moves + rest.plan.moves ≡ whole.plan.moves

-- an area of so many bytes passes question 9 on a sheet of hauls; the three areas need not be of one length
abbrev pub HasRoom : ℕ → List ℕ → Type 0
HasRoom room s = (m n : ℕ) → reading s ≡ accepted (counts m n) → question9 m n room ≡ true
