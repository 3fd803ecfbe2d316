-- `sheet_tables::fill_row` meets its contract. The invariant: the table's front holds the rows before and the hauls passed, times
-- loads.
use Prim.Native.Nat.{◌+◌, ◌*◌}
use Rattle.plan_search.specs.SheetTables.{Holds, scaled_haul}
use Rattle.plan_search.proofs.sheet_tables.fill_row.Given as goal

abbrev pub invariant-loop-a : goal.invariant-loop-a
invariant-loop-a l = let s = l.sheet.counted in Holds (scaled_haul l.factor s.bytes.now s.yards) (l.farm * s.yards + l.a) l.table
