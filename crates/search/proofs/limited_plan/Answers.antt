-- `limited_plan` meets its contract: the search without a limit gives `limited_planning`, and what is promised follows from its two equations.
use Rattle.search.proofs.PlanningLaws.{limited_planning_lem, as_planned}
use Rattle.search.proofs.PromiseLaws.{limited_promises}
use Rattle.search.proofs.limited_plan.Goals as goal

pub returns : goal.returns
returns c = let made = c.search_plan in
    let told = limited_promises _ c.written.result c.args.area.now _ _
    (as_planned _ _ (limited_planning_lem _ _ _) made.result c.written.result _ _ made.ensures.answer made.ensures.area c.written.ensures) in
    record { answer = told.0; area = told.1.0; sized = told.1.1.0; settled = told.1.1.1.0; bounded = told.1.1.1.1 }
