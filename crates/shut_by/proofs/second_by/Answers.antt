-- `second_by` meets its contract: the second yard is that on the sheet of hauls, or the refusal is handed on.
use mathlib.Core.Path.{ap, ◌∙◌}
use borrow.Author.Rules.{rules}
use Rattle.std.proofs.lemmas.Result.{err_from_is_err_and}
use Rattle.distances.proofs.CallLaws.{as_told, as_refused}
use Rattle.shut.specs.Shutting.{seconding}
use Rattle.shut_by.specs.ShuttingBy.{seconding_by}
use Rattle.shut_by.proofs.ShuttingByLaws.{second_first}
use Rattle.shut_by.proofs.second_by.Goals as goal

pub returns : goal.returns
unfolding seconding_by
returns c = let a = c.args in
    c.second.ensures ∙ ap (λ h. seconding h a.set a.farm) c.within.ensures
    ∙ as_told _ _ _ _ (search rules) _ _ c.hauls_by.ensures.hauls (λ h. seconding h a.set a.farm) (second_first a.set a.farm) _ c.in_ok-hauls.was

pub returns-in_err-hauls : goal.returns-in_err-hauls
unfolding seconding_by
returns-in_err-hauls c = let a = c.args in
    let p = err_from_is_err_and c.from_residual.result c.from_residual.ensures.1 in
    rw (p.1, p.2) (as_refused _ _ _ _ (search rules) _ _ c.hauls_by.ensures.hauls (λ h. seconding h a.set a.farm) _ c.in_err-hauls.was)
