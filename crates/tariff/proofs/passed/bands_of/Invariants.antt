-- `passed::bands_of` meets its contract. The invariant: the ends passed are counted.
use mathlib.Core.Path.{◌≡◌}
use lib.ListN.{length}
use Rattle.tariff.specs.Bounds.{block}
use Rattle.tariff.specs.Passed.{Counted}
use Rattle.tariff.proofs.passed.bands_of.Given as goal

abbrev pub invariant-loop-end : goal.invariant-loop-end
invariant-loop-end l = (length l.passed ≡ block) × Counted l.fn.tariff.ends l.distances l.end-index l.passed
