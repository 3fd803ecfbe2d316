-- `engine_start` meets its contract: each arm is a case of `engine_start`; the shift is exact, and 2 ^ k - 1 has at most 32 bits.
use native.Mathlib.Omega.{arith}
use borrow.Author.Tests.{le-leb, lt-leb}
use Rattle.model.specs.Plans.{limited_start}
use Rattle.model.proofs.SetLaws.{one_shl}
use Rattle.questions.specs.Bounds.{most_yards}
use Rattle.starts.specs.Starts.{engine_start}
use Rattle.starts.proofs.engine_start.Goals as goal

pub returns-then-k-gt-MOST_YARDS : goal.returns-then-k-gt-MOST_YARDS
unfolding engine_start
returns-then-k-gt-MOST_YARDS c = let k = c.in-First.k in rw (c.in-First.is, lt-leb k most_yards c.if-k-gt-MOST_YARDS.true)

pub returns-in-Cheapest : goal.returns-in-Cheapest
unfolding engine_start
returns-in-Cheapest c = rw c.in-Cheapest.is

pub returns-else-k-gt-MOST_YARDS : goal.returns-else-k-gt-MOST_YARDS
unfolding engine_start limited_start
returns-else-k-gt-MOST_YARDS c = let k = c.in-First.k in
    rw (c.in-First.is, le-leb k most_yards c.if-k-gt-MOST_YARDS.false, one_shl 64 k (omega (arith, c.if-k-gt-MOST_YARDS.false)))

pub returns-in-Given : goal.returns-in-Given
unfolding engine_start
returns-in-Given c = rw c.in-Given.is
