-- A sum that gives a number falls by it.
use Rattle.std.proofs.Common.{rules}
use Rattle.rows.proofs.WrapLaws.{fall_is}
use Rattle.rows.proofs.FallWay.change.Goals as goal

pub returns : goal.returns
returns c = λ f i e. fall_is f i _ _ (search rules) e
