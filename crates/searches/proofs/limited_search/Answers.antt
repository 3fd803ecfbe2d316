-- `limited_search` meets its contract: what is promised follows from its two equations.
use lib.ListN.{length}
use Rattle.starts.specs.declared.PlanStart.TheVariants.{First}
use Rattle.searches.proofs.PromiseLaws.{limited_promises, first_size}
use Rattle.searches.proofs.limited_search.Goals as goal

pub returns : goal.returns
returns c = let a = c.args in
    let told = limited_promises (First a.k) a.limit _ _ _ _ a.area.now _ (λ h. a.k)
    (λ h p passed. first_size a.limit h (length a.area.now) p a.k passed)
    (c.search_by.ensures.answer, c.search_by.ensures.area) in
    record {
      answer = told.0;
      area = told.1.0;
      sized = told.1.1.0;
      settled = told.1.1.1.0;
      bounded = told.1.1.1.1.0;
      stopped = told.1.1.1.1.1.0;
      not_dearer = told.1.1.1.1.1.1;
    }
