-- `block::put_block` meets its contract. The invariant: the records passed stand, priced, one behind the other.
use Prim.Native.Nat.{◌*◌}
use Rattle.record.proofs.WriteLaws.{PutSoFar}
use Rattle.tariff.specs.Pricing.{price_of}
use Rattle.distances.specs.Priced.{priced_at}
use Rattle.distances.proofs.block.put_block.Given as goal

abbrev pub invariant-loop-k : goal.invariant-loop-k
invariant-loop-k l = PutSoFar (priced_at (price_of l.by) l.part) l.initial.hauls 0 l.hauls (8 * l.k) l.k
