-- `farm_len` meets its contract: the stretch is the one that `farm_hauls` gives.
use mathlib.Core.Path.{ap}
use lib.ListN.{length}
use Rattle.stretch.proofs.farm_len.Goals as goal

pub returns : goal.returns
returns c = ap length c.farm_hauls.ensures
