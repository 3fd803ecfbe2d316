-- A sum that takes a number on rises by it.
use Rattle.rows.proofs.WrapLaws.{rise_is}
use Rattle.rows.proofs.RiseWay.change.Goals as goal

pub returns : goal.returns
returns c = λ f i e. rise_is f i _ _ e
