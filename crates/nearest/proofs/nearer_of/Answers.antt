-- `nearer_of` meets its contract: each branch is a case of the tests.
use native.Mathlib.Omega.{arith}
use borrow.Author.Tests.{lt-ltb, le-ltb, eq-eqb, ne_eqb}
use Rattle.nearest.specs.Choices.{nearer}
use Rattle.nearest.proofs.nearer_of.Goals as goal

pub returns-then-b-a-2 : goal.returns-then-b-a-2
unfolding nearer
returns-then-b-a-2 c = let a = c.args in
    rw (le-ltb a.b.key a.a.key (omega arith), eq-eqb a.b.key a.a.key (omega arith), lt-ltb a.b.yard a.a.yard (omega arith))

pub returns-else-b-a-2 : goal.returns-else-b-a-2
unfolding nearer
returns-else-b-a-2 c = let a = c.args in
    rw (le-ltb a.b.key a.a.key (omega arith), eq-eqb a.b.key a.a.key (omega arith), le-ltb a.b.yard a.a.yard (omega arith))

pub returns-then-b-a-3 : goal.returns-then-b-a-3
unfolding nearer
returns-then-b-a-3 c = rw (lt-ltb _ _ c.if-b-a-3.true)

pub returns-else-b-a-3 : goal.returns-else-b-a-3
unfolding nearer
returns-else-b-a-3 c = let a = c.args in
    rw (le-ltb a.b.key a.a.key (omega arith), ne_eqb a.b.key a.a.key (λ e. omega arith))
