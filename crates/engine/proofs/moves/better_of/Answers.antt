-- `moves::better_of` meets its contract: each branch is a case of `cheaper`.
use borrow.Author.Tests.{lt-ltb, le-ltb}
use Rattle.engine.specs.Moves.{cheaper}
use Rattle.engine.proofs.moves.better_of.Goals as goal

pub returns-then-cost-b : goal.returns-then-cost-b
unfolding cheaper
returns-then-cost-b c = rw (lt-ltb _ _ c.if-cost-b.true)

pub returns-else-cost-b : goal.returns-else-cost-b
unfolding cheaper
returns-else-cost-b c = rw (le-ltb _ _ c.if-cost-b.false)
