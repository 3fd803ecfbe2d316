-- `read_by` meets its contract: the sheet of hauls is read, or the refusal handed on.
use mathlib.Core.Path.{ap, ◌∙◌}
use borrow.Author.Rules.{rules}
use Rattle.std.proofs.lemmas.Result.{err_from_is_err_and}
use Rattle.questions.specs.Reading.{reading}
use Rattle.distances.specs.Priced.{reading_by}
use Rattle.distances.proofs.CallLaws.{as_told, as_refused, reading_first}
use Rattle.distances.proofs.read_by.Goals as goal

pub returns : goal.returns
unfolding reading_by
returns c = c.read.ensures ∙ ap reading c.within.ensures
    ∙ as_told _ _ _ _ (search rules) _ _ c.hauls_by.ensures.hauls reading reading_first _ c.in_ok-hauls.was

pub returns-in_err-hauls : goal.returns-in_err-hauls
unfolding reading_by
returns-in_err-hauls c = let p = err_from_is_err_and c.from_residual.result c.from_residual.ensures.1 in
    rw (p.1, p.2) (as_refused _ _ _ _ (search rules) _ _ c.hauls_by.ensures.hauls reading _ c.in_err-hauls.was)
