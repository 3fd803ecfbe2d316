-- `form_and_loads_of` meets its contract: the form, and question 10 where it passes.
use mathlib.Core.Path.{sym, ap, ◌∙◌}
use Rattle.std.proofs.lemmas.Result.{err_from_is_err_and}
use Rattle.model.proofs.Bools.{said_no, said_yes}
use Rattle.refusal.specs.Numbers.{answer_of}
use Rattle.questions.proofs.ReadingLaws.{loads_form, loads_10, loads_yes}
use Rattle.questions.proofs.AcceptedLaws.{has_form, shape_of, tenth_is}
use Rattle.questions.proofs.form_and_loads_of.Goals as goal

pub loads_good-requires : goal.loads_good-requires
loads_good-requires c = let form = has_form _ _ _ (sym c.form_of.ensures ∙ ap answer_of c.in_ok-counts.was) in
    ((shape_of form).room, form.few_farms)

pub returns-then-not-loads_good : goal.returns-then-not-loads_good
returns-then-not-loads_good c = let formed = sym c.form_of.ensures ∙ ap answer_of c.in_ok-counts.was in
    sym (loads_10 _ formed (sym (tenth_is (has_form _ _ _ formed)) ∙ said_no c.loads_good.ensures c.if-not-loads_good.true))

pub returns : goal.returns
returns c = let formed = sym c.form_of.ensures ∙ ap answer_of c.in_ok-counts.was in
    sym (loads_yes _ formed (sym (tenth_is (has_form _ _ _ formed)) ∙ said_yes c.loads_good.ensures c.if-not-loads_good.false))

pub returns-in_err-counts : goal.returns-in_err-counts
returns-in_err-counts c = let p = err_from_is_err_and c.from_residual.result c.from_residual.ensures.1 in
    rw (p.1, p.2) (sym (loads_form _ _ (sym c.form_of.ensures ∙ ap answer_of c.in_err-counts.was)))
