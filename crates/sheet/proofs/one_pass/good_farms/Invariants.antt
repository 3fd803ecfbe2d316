-- `one_pass::good_farms` meets its contract. The invariant: every farm passed has its hauls, and they stand in the table.
use mathlib.Core.Path.{◌≡◌}
use mathlib.Core.Bool.{true}
use Rattle.model.specs.Loops.{all_below}
use Rattle.sheet.specs.Hauls.{Filled}
use Rattle.sheet.specs.OnePass.{good_farm}
use Rattle.sheet.proofs.one_pass.good_farms.Given as goal

abbrev pub invariant-loop-p : goal.invariant-loop-p
invariant-loop-p l = (true ≡ all_below l.p (good_farm l.sheet l.m)) × Filled l.sheet l.m l.p 0 l.table
