-- `start_good` meets its contract.
use native.Mathlib.Omega.{arith}
use Rattle.model.proofs.SetLaws.{one_shl}
use borrow.Author.Tests.{le-leb, lt-leb}
use Rattle.engine.specs.SearchOnTables.{good_start}
use Rattle.engine.proofs.start_good.Goals as goal

pub returns-in-Cheapest : goal.returns-in-Cheapest
unfolding good_start
returns-in-Cheapest c = rw c.in-Cheapest.is

pub returns-then-set-ge1 : goal.returns-then-set-ge1
unfolding good_start
returns-then-set-ge1 c = rw (c.in-Set.is, one_shl 64 c.args.m (omega arith), le-leb 1 c.in-Set.set (omega arith))

pub returns-else-set-ge1 : goal.returns-else-set-ge1
unfolding good_start
returns-else-set-ge1 c = rw (c.in-Set.is, lt-leb 1 c.in-Set.set (omega arith))
