-- `offered::fees_cover` meets its contract. The invariant: the fee of every yard passed covers its sum.
use mathlib.Core.Path.{◌≡◌}
use mathlib.Core.Bool.{true}
use Rattle.model.specs.Loops.{all_below}
use Rattle.floor.specs.Offered.{covered_at}
use Rattle.floor.proofs.offered.fees_cover.Given as goal

abbrev pub invariant-loop-yard : goal.invariant-loop-yard
invariant-loop-yard l = true ≡ all_below l.yard (covered_at l.sheet.bytes.now l.excess)
