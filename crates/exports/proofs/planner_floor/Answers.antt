-- `planner_floor` meets its contract: `floor_by::floor_by` does, and its sums keep to their bits.
use mathlib.Core.Path.{sym, subst}
use Rattle.refusal.specs.Numbers.{number_of}
use Rattle.numbers.specs.Numbers.{SumKeepsBits}
use Rattle.numbers.proofs.SaidLaws.{under_told}
use Rattle.exports.proofs.FloorNumberLaws.{sum_by_within}
use Rattle.exports.proofs.planner_floor.Goals as goal

pub returns-clause-under : goal.returns-clause-under
returns-clause-under c = let made = c.floor_by-bound in
    let bits = subst SumKeepsBits (sym made.ensures.answer) (sum_by_within _ _ _ _) in
    rw (← c.choice_of.ensures) ((λ h is. under_told h _ number_of made.result bits c.sum_number.ensures (made.ensures.under h is)))
