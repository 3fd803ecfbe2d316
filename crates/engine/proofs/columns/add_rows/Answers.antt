use mathlib.Core.Path.{◌≡◌, refl}
use native.Mathlib.Omega.{arith}
use Rattle.engine.proofs.columns.ColumnLaws.{columns_none, columns_ready, columns_more, aside_none, aside_more}
use Rattle.engine.proofs.columns.add_rows.Goals as goal

pub columns-width-requires : goal.columns-width-requires
columns-width-requires c = omega arith

pub loop-j-init : goal.loop-j-init
loop-j-init c = let a = c.args in
    (c.columns-width.ensures, refl, columns_none a.service.m a.service.costs.now a.kept.now c.requires.1, aside_none a.kept.now)

pub overflow_mul-j : goal.overflow_mul-j
overflow_mul-j c = let a = c.args in
    let l = c.loop-j in
    let can = columns_ready a.service.m a.service.costs.now a.service.n l.j l.kept c.args.service.rows (omega arith) (omega arith) l.invariant.2 in
    omega (arith, can.row_room)

pub add_row-requires : goal.add_row-requires
add_row-requires c = let a = c.args in
    let l = c.loop-j in
    rw l.invariant.0 (columns_ready a.service.m a.service.costs.now a.service.n l.j l.kept c.args.service.rows (omega arith) (omega arith) l.invariant.2)

pub loop-j-preserved : goal.loop-j-preserved
loop-j-preserved c = let a = c.args in
    let l = c.loop-j in
    let added = rw l.invariant.0 at c.add_row.ensures in
    (l.invariant.0, omega arith, columns_more a.service.m a.service.costs.now l.j l.kept _ l.invariant.2 added, aside_more l.invariant.3 added)

pub returns : goal.returns
returns c = let l = c.loop-j in
    let e : l.j ≡ c.args.service.n = omega arith in
    record { sums = rw e at l.invariant.2; aside = l.invariant.3 }
