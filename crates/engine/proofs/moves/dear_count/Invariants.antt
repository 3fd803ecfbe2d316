-- `moves::dear_count` meets its contract. The invariant: the total counts the prices passed that are not below the bound.
use mathlib.Core.Path.{◌≡◌}
use Rattle.model.specs.Sets.{count}
use Rattle.engine.specs.Rows.{dear_at}
use Rattle.engine.proofs.moves.dear_count.Given as goal

abbrev pub invariant-loop-i : goal.invariant-loop-i
invariant-loop-i l = (l.total ≡ count l.i (dear_at l.more l.at l.costs l.bound))
