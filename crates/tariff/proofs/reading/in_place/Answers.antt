-- `reading::in_place` meets its contract: each way of the test is a part of `in_place`.
use borrow.Author.Tests.{ne_eqb, eq-eqb}
use Rattle.tariff.specs.Questions.{in_place}
use Rattle.tariff.proofs.reading.in_place.Goals as goal

pub returns-then-band-start : goal.returns-then-band-start
unfolding in_place
returns-then-band-start c = rw (eq-eqb _ _ c.if-held.true, eq-eqb _ _ c.if-held-i.true, eq-eqb _ _ c.if-band-start.true)

pub returns-else-band-start : goal.returns-else-band-start
unfolding in_place
returns-else-band-start c = rw (eq-eqb _ _ c.if-held.true, eq-eqb _ _ c.if-held-i.true, ne_eqb _ _ c.if-band-start.false)

pub returns-else-held-i : goal.returns-else-held-i
unfolding in_place
returns-else-held-i c = rw (eq-eqb _ _ c.if-held.true, ne_eqb _ _ c.if-held-i.false)

pub returns-else-held : goal.returns-else-held
unfolding in_place
returns-else-held c = rw (ne_eqb _ _ c.if-held.false)
