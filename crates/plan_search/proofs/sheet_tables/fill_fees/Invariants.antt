-- `sheet_tables::fill_fees` meets its contract. The invariant: the table's front holds the fees of the yards passed, times the factor.
use Rattle.plan_search.specs.SheetTables.{Holds, scaled_fee}
use Rattle.plan_search.proofs.sheet_tables.fill_fees.Given as goal

abbrev pub invariant-loop-i : goal.invariant-loop-i
invariant-loop-i l = Holds (scaled_fee l.factor l.sheet.counted.bytes.now) l.i l.table
