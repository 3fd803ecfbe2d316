-- `second_yard` meets its contract: the first is left out of the set, and where there is none there is no second one.
use mathlib.Core.Path.{sym, ap, ◌∙◌}
use Rattle.nearest.specs.Nearest.{Nearest, told, nearest_on}
use Rattle.nearest.proofs.ChoiceLaws.{second_after, second_none}
use Rattle.nearest.proofs.second_yard.Goals as goal

pub returns : goal.returns
returns c = let a = c.args in
    let first = sym (ap told c.in_ok-first.was) ∙ c.nearest_yard.ensures in
    c.nearest_yard-2.ensures ∙ ap (nearest_on a.fees.now a.hauls.now) c.removed.ensures
    ∙ second_after a.fees.now a.hauls.now a.set c.in_ok-first.first.yard (ap (λ (r : Nearest). r.yard) first)

pub returns-in_err-first : goal.returns-in_err-first
returns-in_err-first c = let a = c.args in
    rw c.from_residual.ensures
    (second_none a.fees.now a.hauls.now a.set (sym (ap told c.in_err-first.was) ∙ c.nearest_yard.ensures))
