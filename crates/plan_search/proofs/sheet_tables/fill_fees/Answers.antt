use native.Mathlib.Nat.{lt_of_le_of_lt}
use native.Mathlib.Omega.{arith}
use Rattle.plan_search.proofs.SheetTableLaws.{fee_more, fee_small}
use Rattle.plan_search.proofs.sheet_tables.fill_fees.Goals as goal

pub overflow_mul-table : goal.overflow_mul-table
overflow_mul-table c = let a = c.args in
    let small = fee_small a.factor _ _ _ c.loop-i.i _ a.sheet.read c.requires.0 c.loop-i-test.true (c.fee.ensures.fee c.loop-i-test.true) in
    record { fits = lt_of_le_of_lt small (omega arith) }

pub loop-i-preserved : goal.loop-i-preserved
loop-i-preserved c = let l = c.loop-i in
    fee_more c.args.factor c.args.sheet.counted.bytes.now l.i _ l.table (omega arith) (c.fee.ensures.fee c.loop-i-test.true) l.invariant
