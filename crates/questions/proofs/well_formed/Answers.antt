-- `well_formed` meets its contract: a yard, a haul and any other kind are the cases of `well_formed`.
use borrow.Author.Tests.{eq-eqb, ne_eqb}
use Rattle.questions.specs.Questions.{well_formed}
use Rattle.questions.proofs.well_formed.Goals as goal

pub returns-then-record-eq0 : goal.returns-then-record-eq0
unfolding well_formed
returns-then-record-eq0 c = rw (eq-eqb _ _ c.if-record.true, c.if-record-eq0.true)

pub returns-else-record-eq0 : goal.returns-else-record-eq0
unfolding well_formed
returns-else-record-eq0 c = rw (eq-eqb _ _ c.if-record.true, ne_eqb _ _ c.if-record-eq0.false)

pub returns : goal.returns
unfolding well_formed
returns c = rw (ne_eqb _ _ c.if-record.false)
