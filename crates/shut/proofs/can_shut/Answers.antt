-- `can_shut` meets its contract: its two tests.
use mathlib.Core.Path.{sym}
use Rattle.shut.proofs.can_shut.Goals as goal

pub returns-then-has : goal.returns-then-has
returns-then-has c = rw (sym c.has.ensures, c.if-has.true, c.removed.ensures)

pub returns-else-has : goal.returns-else-has
returns-else-has c = rw (sym c.has.ensures, c.if-has.false)
