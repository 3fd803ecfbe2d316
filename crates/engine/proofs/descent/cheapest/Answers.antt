use native.Mathlib.Omega.{arith}
use mathlib.Core.Path.{◌≡◌, refl}
use Rattle.engine.proofs.DescentLaws.{cheapest_all}
use Rattle.engine.proofs.descent.SingleFacilityLaws.{alone_fits, alone_first, alone_more}
use Rattle.engine.proofs.descent.cheapest.Goals as goal

pub bounds-kept-256 : goal.bounds-kept-256
bounds-kept-256 c = omega (arith, c.requires.1)

pub overflow_add-b : goal.overflow_add-b
overflow_add-b c = let a = c.args in
    let pre = c.requires in
    record { fits = alone_fits a.tables.service.m a.tables.service.n a.tables.opening.now a.tables.service.costs.now a.kept.now c.args.tables.service.rows pre.2 c.args.tables.openings 0 (omega (arith, pre.0)) }

pub loop-i-init : goal.loop-i-init
loop-i-init c = let a = c.args in
    let pre = c.requires in
    alone_first a.tables.service.m a.tables.service.n a.tables.opening.now a.tables.service.costs.now a.kept.now c.args.tables.service.rows pre.2 _ (omega (arith, pre.0)) refl

pub offset_bounds-kept-i : goal.offset_bounds-kept-i
offset_bounds-kept-i c = omega (arith, c.args.tables.service.rows.few_facilities)

pub bounds-kept-i : goal.bounds-kept-i
bounds-kept-i c = let pre = c.requires in omega (arith, c.args.tables.service.rows.few_facilities, pre.1)

pub overflow_add-tables : goal.overflow_add-tables
overflow_add-tables c = let a = c.args in
    let pre = c.requires in
    record {
      fits =
          alone_fits a.tables.service.m a.tables.service.n a.tables.opening.now a.tables.service.costs.now a.kept.now c.args.tables.service.rows pre.2 c.args.tables.openings c.loop-i.i (omega arith);
    }

pub loop-i-preserved : goal.loop-i-preserved
loop-i-preserved c = let l = c.loop-i in
    let a = c.args in
    let pre = c.requires in
    alone_more a.tables.service.m a.tables.service.n a.tables.opening.now a.tables.service.costs.now a.kept.now c.args.tables.service.rows pre.2 l.i _ _ l.b _ (omega arith) (omega arith) l.invariant
    c.added.ensures refl c.better_of-b.ensures

pub returns : goal.returns
returns c = let e : c.loop-i.i ≡ c.args.tables.service.m = omega (arith, c.requires.0) in
    cheapest_all _ _ _ _ _ (rw e at c.loop-i.invariant)
