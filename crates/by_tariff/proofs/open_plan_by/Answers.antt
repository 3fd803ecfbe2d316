-- `open_plan_by` meets its contract: the plan is made on the sheet of hauls, or the refusal handed on.
use mathlib.Core.Path.{◌≡◌, sym, ap, subst, ◌∙◌}
use borrow.Author.Rules.{rules}
use lib.ListN.{length}
use Rattle.std.proofs.lemmas.Result.{err_from_is_err_and}
use Rattle.distances.proofs.CallLaws.{as_told, as_refused, on_told, on_refused}
use Rattle.price.proofs.PricingLaws.{refuses, as_outcome}
use Rattle.search.specs.Planning.{open_planning}
use Rattle.by_tariff.specs.PlanningBy.{open_planning_by}
use Rattle.search.specs.Promises.{OpenPlanSettled, OpenPlanBounded}
use Rattle.by_tariff.proofs.PlanningByLaws.{open_first}
use Rattle.by_tariff.proofs.open_plan_by.Goals as goal

pub returns : goal.returns
unfolding open_planning_by
returns c = let a = c.args in
    let planned = c.open_plan in
    let next = planned.new.area in
    let told = c.hauls_by.ensures.hauls in
    let room = length a.area.now in
    let both = as_outcome (ap (λ h. open_planning h room) c.within.ensures
    ∙ as_told _ _ _ _ (search rules) _ _ told (λ h. open_planning h room) (open_first room) _ c.in_ok-hauls.was)
    planned.result _ _ (planned.ensures.answer, planned.ensures.area) in
    record {
      answer = both.0;
      area = both.1;
      settled = on_told _ _ _ _ (search rules) _ _ told (λ h. OpenPlanSettled h planned.result next) _ c.in_ok-hauls.was
          (subst (λ h. OpenPlanSettled h planned.result next) c.within.ensures planned.ensures.settled);
      bounded = on_told _ _ _ _ (search rules) _ _ told (λ h. OpenPlanBounded h planned.result next) _ c.in_ok-hauls.was
          (subst (λ h. OpenPlanBounded h planned.result next) c.within.ensures planned.ensures.bounded);
    }

pub returns-in_err-hauls : goal.returns-in_err-hauls
unfolding open_planning_by
returns-in_err-hauls c = let a = c.args in
    let p = err_from_is_err_and c.from_residual.result c.from_residual.ensures.1 in
    let told = c.hauls_by.ensures.hauls in
    let both = refuses _ a.area.now _ (sym (as_refused _ _ _ _ (search rules) _ _ told (λ h. open_planning h (length a.area.now)) _ c.in_err-hauls.was)) in
    rw (p.1, p.2) record {
      answer = both.0;
      area = both.1;
      settled = on_refused _ _ _ _ (search rules) _ _ told _ _ c.in_err-hauls.was;
      bounded = on_refused _ _ _ _ (search rules) _ _ told _ _ c.in_err-hauls.was;
    }
