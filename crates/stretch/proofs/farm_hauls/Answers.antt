-- `farm_hauls` meets its contract: the arms of the `match` are the cases of `farm_hauls`.
use mathlib.Core.Path.{sym, ap, ◌∙◌}
use borrow.Author.Tests.{lt-ltb, le-ltb}
use Rattle.refusal.specs.Numbers.{answer_of}
use Rattle.stretch.specs.Stretch.{farm_hauls}
use Rattle.stretch.proofs.farm_hauls.Goals as goal
use Rattle.stretch.proofs.farm_hauls.Goals.{in_default-via-in-Ok+else-farm-farms, in_default-via-in_default}

pub returns-in-Ok : goal.returns-in-Ok
unfolding farm_hauls
returns-in-Ok c = rw (sym c.form_of.ensures ∙ ap answer_of c.in-Ok.is, lt-ltb _ _ c.if-farm-farms.true) c.farm_stretch.ensures

pub returns-in_default : goal.returns-in_default
unfolding farm_hauls
returns-in_default c = elim c.in_default.branch [
  | in_default-via-in-Ok+else-farm-farms w ↦ rw (sym c.form_of.ensures ∙ ap answer_of w.in-Ok.is, le-ltb _ _ w.if-farm-farms.false)
  | in_default-via-in_default w ↦ rw (sym c.form_of.ensures ∙ ap answer_of w.in_default.is)
]
