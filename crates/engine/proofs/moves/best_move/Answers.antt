-- `moves::best_move` meets its contract: the adds, the drops, the swaps, each from where the last ended; or the swaps alone.
use Rattle.engine.proofs.BestMoveLaws.{both_fall, taken_all, taken_swap}
use Rattle.engine.proofs.moves.best_move.Goals as goal

pub best_swap-requires : goal.best_swap-requires
best_swap-requires c = (c.requires.4, both_fall _ _ _ _ _ _ _ c.args.b _ _ c.requires.2 c.best_add-added.ensures c.best_drop-dropped.ensures)

pub returns-in-AddDropSwap : goal.returns-in-AddDropSwap
returns-in-AddDropSwap c = taken_all _ _ _ _ _ _ c.args.b _ _ _
    c.in-AddDropSwap.is c.best_add-added.ensures c.best_drop-dropped.ensures
    c.best_swap.ensures

pub returns-in-Swap : goal.returns-in-Swap
returns-in-Swap c = taken_swap _ _ _ _ _ _ c.args.b _
    c.in-Swap.is c.best_swap-in-Swap.ensures
