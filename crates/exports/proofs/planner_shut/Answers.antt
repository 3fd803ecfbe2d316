-- `planner_shut` meets its contract: `shut_by::shut_by` does, and its changes keep to their bits.
use mathlib.Core.Path.{sym, subst}
use Rattle.refusal.specs.Numbers.{number_of}
use Rattle.numbers.specs.Numbers.{ChangeKeepsBits}
use Rattle.numbers.proofs.SaidLaws.{difference_told}
use Rattle.exports.proofs.ShutNumberLaws.{shut_by_within}
use Rattle.exports.proofs.planner_shut.Goals as goal

pub returns-clause-difference : goal.returns-clause-difference
returns-clause-difference c = let made = c.shut_by-change in
    let bits = subst ChangeKeepsBits (sym made.ensures.answer) (shut_by_within _ _ _ _ _) in
    rw (← c.choice_of.ensures) ((λ h is. difference_told h _ _ _ number_of made.result bits c.change_number.ensures (made.ensures.difference h is)))
