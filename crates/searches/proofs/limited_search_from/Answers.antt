-- `limited_search_from` meets its contract: what is promised follows from its two equations.
use lib.ListN.{length}
use Rattle.model.specs.Sets.{count, member}
use Rattle.questions.specs.Sheet.{yards}
use Rattle.starts.specs.declared.PlanStart.TheVariants.{Given}
use Rattle.searches.proofs.PromiseLaws.{limited_promises, given_size}
use Rattle.searches.proofs.limited_search_from.Goals as goal

pub returns : goal.returns
returns c = let a = c.args in
    let told = limited_promises (Given a.start) a.limit _ _ _ _ a.area.now _ (λ h. count (yards h) (member a.start))
    (λ h p passed. given_size a.limit h (length a.area.now) p a.start)
    (c.search_by.ensures.answer, c.search_by.ensures.area) in
    record {
      answer = told.0;
      area = told.1.0;
      sized = told.1.1.0;
      settled = told.1.1.1.0;
      bounded = told.1.1.1.1.0;
      stopped = told.1.1.1.1.1.0;
      not_dearer = told.1.1.1.1.1.1;
    }
