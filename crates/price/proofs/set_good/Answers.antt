-- `set_good` meets its contract: the two tests of question 8; below 32 yards the shift fits, and from 32 on every set is small enough.
use Rattle.price.specs.Pricing.{question8}
use borrow.Author.Tests.{le-leb, lt-leb, lt-ltb}
use lib.Dec.{leb}
use lib.Pow.{pow_mono}
use Prim.Native.Nat.{◌^◌, ◌<◌}
use Rattle.model.proofs.Bools.{cases}
use Rattle.model.proofs.SetLaws.{one_shl}
use native.Mathlib.Omega.{arith}
use Rattle.price.proofs.set_good.Goals as goal

pub returns-then-m-ge-MOST_YARDS : goal.returns-then-m-ge-MOST_YARDS
unfolding question8
returns-then-m-ge-MOST_YARDS c = let a = c.args in
    let fits : a.set < 2 ^ a.m = omega (arith, c.ranges.set, pow_mono {i = 32} {j = a.m} (omega arith)) in
    rw (lt-ltb a.set (2 ^ a.m) fits) (cases (leb 1 a.set) (λ e. rw e) (λ e. rw e))

pub returns-then-set-ge1 : goal.returns-then-set-ge1
unfolding question8
returns-then-set-ge1 c = rw (one_shl 64 c.args.m (omega arith), le-leb _ _ c.if-set-ge1.true)

pub returns-else-set-ge1 : goal.returns-else-set-ge1
unfolding question8
returns-else-set-ge1 c = rw (lt-leb _ _ c.if-set-ge1.false)
