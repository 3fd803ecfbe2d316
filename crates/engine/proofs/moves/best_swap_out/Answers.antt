use Prim.Native.Nat.{◌<◌}
use native.Mathlib.Omega.{arith}
use mathlib.Core.Path.{◌≡◌, sym, ◌∙◌}
use Rattle.model.proofs.PassingLaws.{through_none}
use Rattle.engine.specs.Moves.{best_swap_out}
use Rattle.engine.proofs.BestMoveLaws.{row_stays, row_more}
use Rattle.engine.proofs.moves.best_swap_out.Goals as goal

pub overflow_mul-row : goal.overflow_mul-row
overflow_mul-row c = omega arith

pub overflow_add-row : goal.overflow_add-row
overflow_add-row c = omega arith

pub overflow_add-start : goal.overflow_add-start
overflow_add-start c = omega (arith, c.requires.1, c.requires.0.small)

pub dear_count-requires : goal.dear_count-requires
dear_count-requires c = (c.requires.0.row, omega (arith, c.requires.1, c.requires.0.small))

pub returns-then-dear_count : goal.returns-then-dear_count
returns-then-dear_count c = row_stays _ _ _ _ _ _ _ c.requires.0.few (sym c.dear_count.ensures ∙ c.if-dear_count.true)

pub loop-i-init : goal.loop-i-init
loop-i-init c = through_none _ _

pub overflow_add-price : goal.overflow_add-price
overflow_add-price c = omega arith

pub offset_bounds-kept-row : goal.offset_bounds-kept-row
offset_bounds-kept-row c = omega arith

pub bounds-kept-row : goal.bounds-kept-row
bounds-kept-row c = omega (arith, c.requires.0.few, c.requires.0.row.more_room)

pub offset_bounds-costs-i : goal.offset_bounds-costs-i
offset_bounds-costs-i c = omega arith

pub bounds-costs-i : goal.bounds-costs-i
bounds-costs-i c = omega (arith, c.requires.0.few, c.requires.0.row.costs_room)

pub overflow_add-price-in-loop-i : goal.overflow_add-price-in-loop-i
overflow_add-price-in-loop-i c = let l = c.loop-i in
    let below : l.i < 32 = omega (arith, c.requires.0.few) in
    omega (arith, c.requires.0.row.more_small l.i below, c.requires.0.row.costs_small l.i below)

pub overflow_sub-price : goal.overflow_sub-price
overflow_sub-price c = omega (arith, c.requires.0.enough c.loop-i.i (omega (arith, c.requires.0.few)))

pub loop-i-preserved : goal.loop-i-preserved
loop-i-preserved c = (row_more _ _ _ _ _ _ _ _ _ _ c.loop-i.invariant c.removed-without.ensures c.try_add-b.ensures)

pub returns : goal.returns
unfolding best_swap_out
returns c = let l = c.loop-i in
    let e : l.i ≡ c.args.m = omega arith in
    rw e at l.invariant
