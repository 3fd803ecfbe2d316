-- `search_by` meets its contract: the search is made on the sheet of hauls, or the refusal handed on.
use mathlib.Core.Path.{◌≡◌, sym, ap, ◌∙◌}
use borrow.Author.Rules.{rules}
use lib.ListN.{length}
use Rattle.std.proofs.lemmas.Result.{err_from_is_err_and}
use Rattle.distances.proofs.CallLaws.{as_told, as_refused}
use Rattle.plan_search.specs.Planning.{search_planning}
use Rattle.plan_search.proofs.PlanningLaws.{refuses, as_outcome}
use Rattle.searches.specs.SearchingBy.{search_planning_by}
use Rattle.searches.proofs.PromiseLaws.{searching_first}
use Rattle.searches.proofs.search_by.Goals as goal

pub returns : goal.returns
unfolding search_planning_by
returns c = let a = c.args in
    let planned = c.search_plan in
    let room = length a.area.now in
    let told = as_outcome (ap (λ h. search_planning a.kind a.start a.limit h room) c.within.ensures
    ∙ as_told _ _ _ _ (search rules) _ _ c.hauls_by.ensures.hauls (λ h. search_planning a.kind a.start a.limit h room)
    (searching_first a.kind a.start a.limit room) _ c.in_ok-hauls.was)
    planned.result _ _ (planned.ensures.answer, planned.ensures.area) in
    record { answer = told.0; area = told.1 }

pub returns-in_err-hauls : goal.returns-in_err-hauls
unfolding search_planning_by
returns-in_err-hauls c = let a = c.args in
    let p = err_from_is_err_and c.from_residual.result c.from_residual.ensures.1 in
    let told = refuses _ a.area.now _ (sym (as_refused _ _ _ _ (search rules) _ _ c.hauls_by.ensures.hauls
    (λ h. search_planning a.kind a.start a.limit h (length a.area.now)) _ c.in_err-hauls.was)) in
    rw (p.1, p.2) record { answer = told.0; area = told.1 }
