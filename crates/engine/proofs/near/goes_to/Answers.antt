-- `near::goes_to` meets its contract.
use Prim.Native.Nat.{◌%◌}
use borrow.Author.Tests.{eq-eqb, ne_eqb}
use Rattle.engine.specs.Near.{goes_to}
use Rattle.engine.proofs.near.goes_to.Goals as goal

pub returns-then-near-o : goal.returns-then-near-o
unfolding goes_to
returns-then-near-o c = let a = c.args in
    let e = eq-eqb (a.near.first % 32) a.o c.if-near-o.true in rw e

pub returns-else-near-o : goal.returns-else-near-o
unfolding goes_to
returns-else-near-o c = let a = c.args in
    rw (ne_eqb (a.near.first % 32) a.o c.if-near-o.false)
