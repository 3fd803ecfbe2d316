-- `sheet_tables::fill_rows` meets its contract. The invariant: the table's front holds the rows of the farms passed.
use Prim.Native.Nat.{◌*◌}
use Rattle.plan_search.specs.SheetTables.{Holds, scaled_haul}
use Rattle.plan_search.proofs.sheet_tables.fill_rows.Given as goal

abbrev pub invariant-loop-farm : goal.invariant-loop-farm
invariant-loop-farm l = let s = l.sheet.counted in Holds (scaled_haul l.factor s.bytes.now s.yards) (l.farm * s.yards) l.table
