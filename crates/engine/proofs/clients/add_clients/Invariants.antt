-- `clients::add_clients` meets its contract. The invariant: the clients passed stand by the next set, the others by the set.
use mathlib.Core.Path.{◌≡◌}
use lib.ListN.{length}
use Rattle.engine.specs.Sums.{Kept, NearFrom}
use Rattle.engine.proofs.clients.add_clients.Given as goal

abbrev pub invariant-loop-j : goal.invariant-loop-j
invariant-loop-j l = Kept l.service.m l.service.n l.service.costs.now l.kept × NearFrom l.service.m l.service.n l.service.costs.now l.kept l.set l.next l.j × (length l.kept ≡ length l.initial.kept)
