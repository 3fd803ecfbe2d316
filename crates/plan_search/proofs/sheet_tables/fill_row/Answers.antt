use mathlib.Core.Path.{ap, ◌∙◌}
use native.Mathlib.Nat.{lt_of_le_of_lt}
use native.Mathlib.Omega.{arith}
use lib.ListN.{length}
use Rattle.stretch.proofs.FarmLaws.{stretch_length}
use Rattle.plan_search.proofs.SheetTableLaws.{in_rows, factor_small, product_small, row_more}
use Rattle.plan_search.proofs.sheet_tables.fill_row.Goals as goal

pub overflow_mul-loads : goal.overflow_mul-loads
overflow_mul-loads c = let a = c.args in
    let small = factor_small a.factor _ _ _ a.farm a.sheet.read c.requires.1 _ c.hauls-hauls.ensures _ (c.loads_byte.ensures.loads c.requires.1) _
    c.loads_of.ensures c.requires.0 in
    record { fits = lt_of_le_of_lt small (omega arith) }

pub amount_at-requires : goal.amount_at-requires
amount_at-requires c = let a = c.args in
    let long = ap length c.hauls-hauls.ensures ∙ stretch_length _ _ _ a.farm a.sheet.counted.shape c.requires.1 in
    omega arith

pub overflow_cast-table : goal.overflow_cast-table
overflow_cast-table c = let a = c.args in
    let small = product_small a.factor _ _ _ a.farm a.sheet.read c.requires.1 _ c.hauls-hauls.ensures _ (c.loads_byte.ensures.loads c.requires.1) _
    c.loads_of.ensures c.loop-a.a _ c.requires.0 c.loop-a-test.true c.amount_at.ensures in
    record { fits = lt_of_le_of_lt small (omega arith) }

pub overflow_mul-table : goal.overflow_mul-table
overflow_mul-table c = let a = c.args in
    let inside = in_rows _ _ _ a.farm c.loop-a.a a.sheet.read c.requires.1 c.loop-a-test.true in
    omega arith

pub overflow_add-table : goal.overflow_add-table
overflow_add-table c = let a = c.args in
    let inside = in_rows _ _ _ a.farm c.loop-a.a a.sheet.read c.requires.1 c.loop-a-test.true in
    omega arith

pub offset_bounds-table-farm : goal.offset_bounds-table-farm
offset_bounds-table-farm c = let a = c.args in
    let inside = in_rows _ _ _ a.farm c.loop-a.a a.sheet.read c.requires.1 c.loop-a-test.true in
    omega arith

pub bounds-table-farm : goal.bounds-table-farm
bounds-table-farm c = let a = c.args in
    let inside = in_rows _ _ _ a.farm c.loop-a.a a.sheet.read c.requires.1 c.loop-a-test.true in
    omega arith

pub loop-a-preserved : goal.loop-a-preserved
loop-a-preserved c = let a = c.args in
    let inside = in_rows _ _ _ a.farm c.loop-a.a a.sheet.read c.requires.1 c.loop-a-test.true in
    row_more a.factor _ _ _ a.farm a.sheet.read c.requires.1 _ c.hauls-hauls.ensures _ (c.loads_byte.ensures.loads c.requires.1) _
    c.loads_of.ensures c.loop-a.a _ c.loop-a.table c.loop-a-test.true (omega arith) c.amount_at.ensures c.loop-a.invariant
