use native.Mathlib.Omega.{arith}
use mathlib.Core.Path.{◌≡◌}
use lib.ListN.{length}
use borrow.Author.Tests.{lt-ltb, le-ltb}
use Rattle.model.proofs.PassingLaws.{through_none}
use Rattle.engine.specs.Moves.{best_drop}
use Rattle.engine.proofs.BestMoveLaws.{drops_more}
use Rattle.engine.proofs.moves.best_drop.Goals as goal

pub returns-then-list-lt2 : goal.returns-then-list-lt2
unfolding best_drop
returns-then-list-lt2 c = rw (lt-ltb (length c.args.list.now) 2 (omega arith))

pub loop-listed-init : goal.loop-listed-init
loop-listed-init c = through_none _ _

pub overflow_add-price : goal.overflow_add-price
overflow_add-price c = omega (arith, c.requires.0.below c.loop-listed.listed-index c.loop-listed-test.true)

pub offset_bounds-kept-o : goal.offset_bounds-kept-o
offset_bounds-kept-o c = omega (arith, c.requires.0.below c.loop-listed.listed-index c.loop-listed-test.true)

pub bounds-kept-o : goal.bounds-kept-o
bounds-kept-o c = omega (arith, c.requires.1.room, c.requires.0.below c.loop-listed.listed-index c.loop-listed-test.true)

pub overflow_add-price-in-loop-listed : goal.overflow_add-price-in-loop-listed
overflow_add-price-in-loop-listed c = omega (arith, c.requires.2, c.requires.1.small _ (c.requires.0.below c.loop-listed.listed-index c.loop-listed-test.true))

pub offset_bounds-opening-o : goal.offset_bounds-opening-o
offset_bounds-opening-o c = omega (arith, c.requires.0.below c.loop-listed.listed-index c.loop-listed-test.true)

pub bounds-opening-o : goal.bounds-opening-o
bounds-opening-o c = omega (arith, c.requires.0.opening_room, c.requires.0.below c.loop-listed.listed-index c.loop-listed-test.true)

pub overflow_sub-price : goal.overflow_sub-price
overflow_sub-price c = omega (arith, c.requires.0.small c.loop-listed.listed-index c.loop-listed-test.true)

pub loop-listed-preserved : goal.loop-listed-preserved
loop-listed-preserved c = let a = c.args in
    drops_more _ _ _ _ a.list.now a.start _ _ _ _ c.loop-listed.invariant c.removed.ensures c.better_of-b.ensures

pub returns : goal.returns
unfolding best_drop
returns c = let places = length c.args.list.now in
    let e : c.loop-listed.listed-index ≡ places = omega arith in
    rw (le-ltb places 2 (omega arith)) (rw e at c.loop-listed.invariant)
