use native.Mathlib.Omega.{arith}
use mathlib.Core.Path.{◌≡◌}
use lib.ListN.{length}
use Rattle.model.proofs.PassingLaws.{through_none}
use Rattle.engine.specs.Moves.{best_swap}
use Rattle.engine.proofs.BestMoveLaws.{out_falls, rows_more}
use Rattle.engine.proofs.moves.best_swap.Goals as goal

pub loop-listed-init : goal.loop-listed-init
loop-listed-init c = (omega arith, through_none _ _)

pub bounds-opening-o : goal.bounds-opening-o
bounds-opening-o c = omega (arith, c.requires.0.opening_room, (c.requires.0.rows _ c.loop-listed-test.true).below)

pub best_swap_out-b-requires : goal.best_swap_out-b-requires
best_swap_out-b-requires c = (c.requires.0.rows _ c.loop-listed-test.true, c.loop-listed.invariant.0)

pub loop-listed-preserved : goal.loop-listed-preserved
loop-listed-preserved c = let l = c.loop-listed in
    let a = c.args in (
      out_falls _ _ _ _ _ _ _ l.b _ l.invariant.0 c.best_swap_out-b.ensures,
      rows_more _ _ _ _ _ a.list.now a.start l.b _ _ l.invariant.1 c.best_swap_out-b.ensures,
    )

pub returns : goal.returns
unfolding best_swap
returns c = let e : c.loop-listed.listed-index ≡ length c.args.list.now = omega arith in
    rw e at c.loop-listed.invariant.1
