-- `descent::first_set` meets its contract.
use Rattle.engine.specs.SearchOnTables.{start_set}
use Rattle.engine.proofs.MoveLaws.{set_of}
use Rattle.engine.proofs.descent.first_set.Goals as goal

pub returns-in-Cheapest : goal.returns-in-Cheapest
unfolding start_set
returns-in-Cheapest c = rw c.in-Cheapest.is (set_of _ _ _ c.cheapest-alone.ensures)

pub returns-in-Set : goal.returns-in-Set
unfolding start_set
returns-in-Set c = rw c.in-Set.is
