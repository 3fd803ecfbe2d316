use native.Mathlib.Omega.{arith}
use Prim.Native.Nat.{ℕ, ◌+◌}
use mathlib.Core.Path.{◌≡◌, sym, ap, ◌∙◌}
use lib.ListN.{length, get_or}
use Rattle.engine.specs.Moves.{listed_openings}
use Rattle.model.proofs.SumLaws.{sum_none, sum_more}
use Rattle.engine.proofs.cost.openings_of.Goals as goal

pub loop-o-init : goal.loop-o-init
loop-o-init c = (omega arith, sum_none _)

pub bounds-opening-o : goal.bounds-opening-o
bounds-opening-o c = omega (arith, c.requires.opening_room, c.requires.below _ c.loop-o-test.true)

pub overflow_add-total : goal.overflow_add-total
overflow_add-total c = omega (arith, c.requires.few, c.requires.small _ c.loop-o-test.true)

pub loop-o-preserved : goal.loop-o-preserved
loop-o-preserved c = let l = c.loop-o in
    let cost : ℕ → ℕ = λ t. get_or c.args.opening.now (get_or c.args.list.now t 0) 0 in (
      omega (arith, c.requires.small _ c.loop-o-test.true),
      ap (λ (x : ℕ). x + cost l.o-index) l.invariant.1 ∙ sym (sum_more cost l.o-index),
    )

pub returns : goal.returns
unfolding listed_openings
returns c = let e : c.loop-o.o-index ≡ length c.args.list.now = omega arith in
    rw e at c.loop-o.invariant.1
