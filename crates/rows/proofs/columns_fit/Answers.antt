-- `columns_fit` meets its contract: no end lies so far that the sum would overflow.
use Rattle.std.proofs.Common.{arith}
use Rattle.rows.proofs.CallLaws.{fits_tested, fits_never}
use Rattle.rows.proofs.columns_fit.Goals as goal

pub returns-then-from : goal.returns-then-from
returns-then-from c = fits_tested _ _

pub returns-else-from : goal.returns-else-from
returns-else-from c = fits_never _ _ _ c.if-from.false (omega (arith, c.ranges.end))
