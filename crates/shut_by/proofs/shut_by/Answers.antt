-- `shut_by` meets its contract: the change is that on the sheet of hauls, or the refusal is handed on.
use mathlib.Core.Path.{ap, ◌∙◌}
use borrow.Author.Rules.{rules}
use Rattle.std.proofs.lemmas.Result.{err_from_is_err_and}
use Rattle.distances.proofs.CallLaws.{as_told, as_refused}
use Rattle.std.specs.Prelude.{Err}
use Rattle.shut.specs.Shutting.{shutting}
use Rattle.shut_by.proofs.ShuttingByLaws.{shut_first, shut_answers_by}
use Rattle.shut_by.proofs.shut_by.Goals as goal

pub returns : goal.returns
returns c = let a = c.args in
    let told = shut_answers_by _ _ _ a.set a.yard _ (c.shut.ensures.answer ∙ ap (λ h. shutting h a.set a.yard) c.within.ensures
    ∙ as_told _ _ _ _ (search rules) _ _ c.hauls_by.ensures.hauls (λ h. shutting h a.set a.yard) (shut_first a.set a.yard) _ c.in_ok-haul_sheet.was) in
    record { answer = told.0; difference = told.1 }

pub returns-in_err-haul_sheet : goal.returns-in_err-haul_sheet
returns-in_err-haul_sheet c = let a = c.args in
    let p = err_from_is_err_and c.from_residual.result c.from_residual.ensures.1 in
    let told = shut_answers_by _ _ _ a.set a.yard (Err c.in_err-haul_sheet.field-0.0) (as_refused _ _ _ _ (search rules) _ _ c.hauls_by.ensures.hauls (λ h. shutting h a.set a.yard) _ c.in_err-haul_sheet.was) in
    rw (p.1, p.2) record { answer = told.0; difference = told.1 }
