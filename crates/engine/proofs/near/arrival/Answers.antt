-- `near::arrival` meets its contract: the cost of a facility that came, else what stands for a missing one.
use borrow.Author.Tests.{lt-ltb, le-ltb}
use Rattle.engine.specs.Near.{arrival_at}
use Rattle.engine.proofs.near.arrival.Goals as goal

pub returns-then-came-service : goal.returns-then-came-service
unfolding arrival_at
returns-then-came-service c = rw (lt-ltb _ _ c.if-came-service.true) c.packed_at.ensures

pub returns : goal.returns
unfolding arrival_at
returns c = rw (le-ltb _ _ c.if-came-service.false)
