-- `over` meets its contract: a difference in 32 bits, where it is in the lower half.
use Rattle.std.proofs.Common.{rules}
use Rattle.rows.proofs.WrapLaws.{less_is, above_low, above_high}
use Rattle.rows.proofs.over.Goals as goal

pub returns-then-difference-lt-HALF : goal.returns-then-difference-lt-HALF
returns-then-difference-lt-HALF c = above_low _ _ _ (less_is _ _ (search rules)) c.if-difference-lt-HALF.true

pub returns-else-difference-lt-HALF : goal.returns-else-difference-lt-HALF
returns-else-difference-lt-HALF c = above_high _ _ _ (less_is c.args.cost c.args.other (search rules)) c.if-difference-lt-HALF.false
