use native.Mathlib.Omega.{arith}
use mathlib.Core.Path.{◌≡◌, refl}
use Rattle.model.proofs.SumLaws.{sum_none}
use Rattle.tables.proofs.LentTableLaws.{counts_on}
use Rattle.engine.specs.Rows.{dear_at}
use Rattle.engine.proofs.BestMoveLaws.{lifted}
use Rattle.engine.proofs.moves.dear_count.Goals as goal

pub overflow_sub-lift : goal.overflow_sub-lift
overflow_sub-lift c = omega (arith, c.requires.1)

pub loop-i-init : goal.loop-i-init
loop-i-init c = sum_none _

pub overflow_add-total : goal.overflow_add-total
overflow_add-total c = omega arith

pub offset_bounds-more-at : goal.offset_bounds-more-at
offset_bounds-more-at c = omega arith

pub bounds-more-at : goal.bounds-more-at
bounds-more-at c = omega arith

pub offset_bounds-costs-i : goal.offset_bounds-costs-i
offset_bounds-costs-i c = omega arith

pub bounds-costs-i : goal.bounds-costs-i
bounds-costs-i c = omega arith

pub overflow_add-total-in-loop-i : goal.overflow_add-total-in-loop-i
overflow_add-total-in-loop-i c = let l = c.loop-i in
    omega (arith, c.requires.0.more_small l.i c.loop-i-test.true, c.requires.0.costs_small l.i c.loop-i-test.true)

pub overflow_add-total-in-loop-i-2 : goal.overflow_add-total-in-loop-i-2
overflow_add-total-in-loop-i-2 c = let l = c.loop-i in
    omega (arith, c.requires.0.more_small l.i c.loop-i-test.true, c.requires.0.costs_small l.i c.loop-i-test.true)

pub overflow_add-total-in-loop-i-3 : goal.overflow_add-total-in-loop-i-3
unfolding dear_at
overflow_add-total-in-loop-i-3 c = let a = c.args in
    let l = c.loop-i in
    let S = dear_at a.more.now a.at a.costs.now a.bound in
    let next = counts_on S _ l.i _ l.invariant (lifted _ a.bound _
    (omega (arith, c.requires.0.more_small l.i c.loop-i-test.true, c.requires.0.costs_small l.i c.loop-i-test.true)) c.requires.1 refl) in
    omega (arith, next.1)

pub loop-i-preserved : goal.loop-i-preserved
unfolding dear_at
loop-i-preserved c = let a = c.args in
    let l = c.loop-i in
    let S = dear_at a.more.now a.at a.costs.now a.bound in
    let next = counts_on S _ l.i _ l.invariant (lifted _ a.bound _
    (omega (arith, c.requires.0.more_small l.i c.loop-i-test.true, c.requires.0.costs_small l.i c.loop-i-test.true)) c.requires.1 refl) in
    (next.0)

pub returns : goal.returns
returns c = let l = c.loop-i in
    let e : l.i ≡ 32 = omega arith in
    rw e at l.invariant
