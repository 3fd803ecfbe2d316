use native.Mathlib.Omega.{arith}
use mathlib.Core.Path.{◌≡◌}
use Rattle.model.proofs.PassingLaws.{through_none}
use Rattle.engine.specs.Moves.{best_add}
use Rattle.engine.proofs.BestMoveLaws.{adds_more}
use Rattle.engine.proofs.moves.best_add.Goals as goal

pub loop-i-init : goal.loop-i-init
loop-i-init c = through_none _ _

pub loop-i-preserved : goal.loop-i-preserved
loop-i-preserved c = (adds_more _ _ _ _ _ _ c.loop-i.invariant c.try_add-b.ensures)

pub returns : goal.returns
unfolding best_add
returns c = let e : c.loop-i.i ≡ c.args.m = omega arith in
    rw e at c.loop-i.invariant
