use mathlib.Core.Path.{◌≡◌, refl}
use native.Mathlib.Omega.{arith}
use lib.ListN.{length-set}
use Rattle.engine.proofs.columns.ColumnLaws.{row_added_none, sum_small, row_added_more}
use Rattle.engine.proofs.columns.add_row.Goals as goal

pub loop-i-init : goal.loop-i-init
loop-i-init c = (refl, row_added_none c.args.service.now c.args.row c.args.kept.now)

pub overflow_add-kept : goal.overflow_add-kept
overflow_add-kept c = omega arith

pub offset_bounds-kept-i : goal.offset_bounds-kept-i
offset_bounds-kept-i c = omega arith

pub bounds-kept-i : goal.bounds-kept-i
bounds-kept-i c = omega arith

pub overflow_add-kept-in-loop-i : goal.overflow_add-kept-in-loop-i
overflow_add-kept-in-loop-i c = omega arith

pub offset_bounds-service-row : goal.offset_bounds-service-row
offset_bounds-service-row c = omega arith

pub bounds-service-row : goal.bounds-service-row
bounds-service-row c = omega arith

pub overflow_cast-kept : goal.overflow_cast-kept
overflow_cast-kept c = omega (arith, c.requires.costs c.loop-i.i c.loop-i-test.true)

pub overflow_add-kept-in-loop-i-2 : goal.overflow_add-kept-in-loop-i-2
overflow_add-kept-in-loop-i-2 c = let l = c.loop-i in
    let a = c.args in
    record {
      fits = sum_small a.service.now a.row a.kept.now a.width l.i l.kept (omega arith) c.requires l.invariant.1;
    }

pub overflow_add-kept-in-loop-i-3 : goal.overflow_add-kept-in-loop-i-3
overflow_add-kept-in-loop-i-3 c = omega arith

pub offset_bounds-kept-i-in-loop-i : goal.offset_bounds-kept-i-in-loop-i
offset_bounds-kept-i-in-loop-i c = omega arith

pub bounds-kept-i-in-loop-i : goal.bounds-kept-i-in-loop-i
bounds-kept-i-in-loop-i c = omega arith

pub loop-i-preserved : goal.loop-i-preserved
loop-i-preserved c = let a = c.args in
    let l = c.loop-i in (
      simp length-set l.invariant.0,
      row_added_more a.service.now a.row a.kept.now l.i l.kept (omega arith) l.invariant.1,
    )

pub returns : goal.returns
returns c = let e : c.loop-i.i ≡ c.args.width = omega arith in rw e at c.loop-i.invariant.1
