-- `open_plan` meets its contract: the search without a limit gives `open_planning`, and what is promised follows from its two equations.
use Rattle.search.proofs.PlanningLaws.{open_planning_lem, as_planned}
use Rattle.search.proofs.PromiseLaws.{open_promises}
use Rattle.search.proofs.open_plan.Goals as goal

pub returns : goal.returns
returns c = let made = c.search_plan in
    let told = open_promises _ c.written.result c.args.area.now _
    (as_planned _ _ (open_planning_lem _ _) made.result c.written.result _ _ made.ensures.answer made.ensures.area c.written.ensures) in
    record { answer = told.0; area = told.1.0; settled = told.1.1.0; bounded = told.1.1.1 }
