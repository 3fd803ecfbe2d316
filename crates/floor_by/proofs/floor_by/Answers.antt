-- `floor_by` meets its contract: the sum is that on the sheet of hauls, or the refusal is handed on.
use mathlib.Core.Path.{ap, ◌∙◌}
use borrow.Author.Rules.{rules}
use Rattle.std.proofs.lemmas.Result.{err_from_is_err_and}
use Rattle.distances.proofs.CallLaws.{as_told, as_refused}
use Rattle.std.specs.Prelude.{Err}
use Rattle.floor.specs.Offering.{offering}
use Rattle.floor_by.proofs.OfferingByLaws.{offering_first, answers_by}
use Rattle.floor_by.proofs.floor_by.Goals as goal

pub returns : goal.returns
returns c = let offers = c.args.offers.now in
    let told = answers_by _ _ _ offers _ (c.floor.ensures.answer ∙ ap (λ h. offering h offers) c.within.ensures
    ∙ as_told _ _ _ _ (search rules) _ _ c.hauls_by.ensures.hauls (λ h. offering h offers) (offering_first offers) _ c.in_ok-hauls.was) in
    record { answer = told.0; under = told.1 }

pub returns-in_err-hauls : goal.returns-in_err-hauls
returns-in_err-hauls c = let offers = c.args.offers.now in
    let p = err_from_is_err_and c.from_residual.result c.from_residual.ensures.1 in
    let told = answers_by _ _ _ offers (Err c.in_err-hauls.field-0.0) (as_refused _ _ _ _ (search rules) _ _ c.hauls_by.ensures.hauls (λ h. offering h offers) _ c.in_err-hauls.was) in
    rw (p.1, p.2) record { answer = told.0; under = told.1 }
