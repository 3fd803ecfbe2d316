-- `columns::add_row` meets its contract. The invariant: the table keeps its length, the sums of the columns passed have the row, the others not.
use mathlib.Core.Path.{◌≡◌}
use lib.ListN.{length}
use Rattle.engine.specs.Rows.{RowAdded}
use Rattle.engine.proofs.columns.add_row.Given as goal

abbrev pub invariant-loop-i : goal.invariant-loop-i
invariant-loop-i l = (length l.kept ≡ length l.initial.kept) × RowAdded l.i l.service l.row l.initial.kept l.kept
