-- `start_refusal` meets its contract: its number is that of what `ask_start` answers.
use mathlib.Core.Path.{ap, sym, ◌∙◌}
use Rattle.refusal.specs.Numbers.{answer_of}
use Rattle.starts.proofs.StartLaws.{passed_alone, refused_alone}
use Rattle.starts.proofs.start_refusal.Goals as goal

pub returns-in-Ok : goal.returns-in-Ok
returns-in-Ok c = sym (passed_alone _ _ (sym (ap answer_of c.in-Ok.is) ∙ c.ask_start.ensures))

pub returns-in-Err : goal.returns-in-Err
returns-in-Err c = c.number.ensures ∙ sym (refused_alone _ _ _ (sym (ap answer_of c.in-Err.is) ∙ c.ask_start.ensures)).1
