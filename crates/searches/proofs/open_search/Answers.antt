-- `open_search` meets its contract: what is promised follows from its two equations.
use Rattle.starts.specs.declared.PlanStart.TheVariants.{Cheapest}
use Rattle.searches.proofs.PromiseLaws.{open_promises}
use Rattle.searches.proofs.open_search.Goals as goal

pub returns : goal.returns
returns c = let a = c.args in
    let told = open_promises Cheapest a.limit _ _ _ _ a.area.now _
    (c.search_by.ensures.answer, c.search_by.ensures.area) in
    record {
      answer = told.0;
      area = told.1.0;
      settled = told.1.1.0;
      bounded = told.1.1.1.0;
      stopped = told.1.1.1.1.0;
      not_dearer = told.1.1.1.1.1;
    }
