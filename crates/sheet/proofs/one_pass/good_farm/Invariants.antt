-- `one_pass::good_farm` meets its contract. The invariant: every record passed is the haul of its place with the first one's loads, and stands in
-- the table.
use mathlib.Core.Path.{◌≡◌}
use mathlib.Core.Bool.{true}
use Rattle.model.specs.Loops.{all_below}
use Rattle.sheet.specs.Hauls.{Filled}
use Rattle.sheet.specs.OnePass.{good_haul}
use Rattle.sheet.proofs.one_pass.good_farm.Given as goal

abbrev pub invariant-loop-a : goal.invariant-loop-a
invariant-loop-a l = (true ≡ all_below l.a (good_haul l.sheet l.m l.p)) × Filled l.sheet l.m l.p l.a l.table
