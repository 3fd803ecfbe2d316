-- `refusal_of` meets its contract: where questions 1 to 4 and 10 are passed, question 5 is not.
use mathlib.Core.Path.{sym, ap, ◌∙◌}
use Rattle.refusal.specs.Numbers.{answer_of}
use Rattle.questions.proofs.ReadingLaws.{reading_loads}
use Rattle.sheet.proofs.ToldLaws.{five_refuses}
use Rattle.sheet.proofs.refusal_of.Goals as goal

pub returns-in-Ok : goal.returns-in-Ok
returns-in-Ok c = sym (five_refuses _ c.requires _ (sym c.form_and_loads_of.ensures ∙ ap answer_of c.in-Ok.is))

pub returns-in-Err : goal.returns-in-Err
returns-in-Err c = sym (reading_loads _ _ (sym c.form_and_loads_of.ensures ∙ ap answer_of c.in-Err.is))
