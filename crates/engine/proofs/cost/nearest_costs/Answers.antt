use mathlib.Core.Path.{◌≡◌, sym, ap, ◌∙◌}
use Prim.Native.Nat.{ℕ, ◌+◌, ◌/◌}
use native.Mathlib.Omega.{arith}
use lib.ListN.{get_or, length}
use Rattle.model.proofs.SumLaws.{sum_none, sum_more}
use Rattle.engine.proofs.cost.nearest_costs.Goals as goal

pub loop-first-init : goal.loop-first-init
loop-first-init c = (omega arith, sum_none _)

pub overflow_add-total : goal.overflow_add-total
overflow_add-total c = omega (arith, c.requires.0, c.requires.1 _ c.loop-first-test.true)

pub loop-first-preserved : goal.loop-first-preserved
loop-first-preserved c = let l = c.loop-first in
    let cost : ℕ → ℕ = λ j. get_or c.args.firsts.now j 0 / 32 in (
      omega (arith, c.requires.1 _ c.loop-first-test.true),
      ap (λ (x : ℕ). x + cost l.first-index) l.invariant.1 ∙ sym (sum_more cost l.first-index),
    )

pub returns : goal.returns
returns c = let e : c.loop-first.first-index ≡ length c.args.firsts.now = omega arith in
    rw e at c.loop-first.invariant.1
