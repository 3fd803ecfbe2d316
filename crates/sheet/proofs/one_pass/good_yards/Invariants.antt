-- `one_pass::good_yards` meets its contract. The invariant: every record passed is a yard, and a good one.
use mathlib.Core.Path.{◌≡◌}
use mathlib.Core.Bool.{true}
use Prim.Native.Nat.{◌≤◌}
use Rattle.model.specs.Loops.{all_below, leading}
use Rattle.questions.specs.Bounds.{most_yards}
use Rattle.questions.specs.Sheet.{is_yard}
use Rattle.sheet.specs.OnePass.{good_yard}
use Rattle.sheet.proofs.one_pass.good_yards.Given as goal

abbrev pub invariant-loop-i : goal.invariant-loop-i
invariant-loop-i l = (l.i ≤ most_yards) × (leading l.i (is_yard l.sheet) ≡ l.i) × (true ≡ all_below l.i (good_yard l.sheet))
