-- `columns::add_rows` meets its contract. The invariant: the table keeps its length and its other places, and its sums are those over the rows passed.
use mathlib.Core.Path.{◌≡◌}
use lib.ListN.{length}
use Rattle.engine.specs.Rows.{ColumnSums, Aside}
use Rattle.engine.proofs.columns.add_rows.Given as goal

abbrev pub invariant-loop-j : goal.invariant-loop-j
invariant-loop-j l = (l.width ≡ 32) × (length l.kept ≡ length l.initial.kept) × ColumnSums l.service.m l.j l.service.costs.now l.kept × Aside l.initial.kept l.kept
