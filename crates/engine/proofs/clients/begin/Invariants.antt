-- `clients::begin` meets its contract. The invariant: the clients passed stand by the set, of the others nothing is counted.
use mathlib.Core.Path.{◌≡◌}
use lib.ListN.{length}
use Rattle.engine.specs.Sums.{Kept, NearUpTo}
use Rattle.engine.proofs.clients.begin.Given as goal

abbrev pub invariant-loop-j : goal.invariant-loop-j
invariant-loop-j l = Kept l.service.m l.service.n l.service.costs.now l.kept × NearUpTo l.service.m l.service.n l.service.costs.now l.kept l.set l.j × (length l.kept ≡ length l.initial.kept)
