-- `near::inserted` meets its contract.
use borrow.Author.Tests.{lt-ltb, le-ltb}
use Rattle.model.specs.TwoLeast.{insert}
use Rattle.engine.proofs.near.inserted.Goals as goal

pub returns-then-x-near : goal.returns-then-x-near
unfolding insert
returns-then-x-near c = rw (lt-ltb _ _ c.if-x-near.true)

pub returns-then-x-near-2 : goal.returns-then-x-near-2
unfolding insert
returns-then-x-near-2 c = rw (le-ltb _ _ c.if-x-near.false, lt-ltb _ _ c.if-x-near-2.true)

pub returns : goal.returns
unfolding insert
returns c = rw (le-ltb _ _ c.if-x-near.false, le-ltb _ _ c.if-x-near-2.false)
