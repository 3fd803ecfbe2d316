-- `sums::enter` meets its contract: the laws of the sums that are kept, with what `shift_in` answers.
use native.Mathlib.Omega.{arith}
use lib.ListN.{length-set}
use Rattle.engine.proofs.ClientSumLaws.{kept_row_small, row_room, enter_shifted}
use Rattle.engine.proofs.sums.SumChangeLaws.{enter_loss_fits, enter_put, enter_kept}
use Rattle.engine.proofs.sums.enter.Goals as goal

pub overflow_mul-row : goal.overflow_mul-row
overflow_mul-row c = omega (arith, kept_row_small c.requires.0 c.args.j c.requires.1)

pub overflow_mul-row-2 : goal.overflow_mul-row-2
overflow_mul-row-2 c = omega (arith, kept_row_small c.requires.0 c.args.j c.requires.1)

pub overflow_add-row : goal.overflow_add-row
overflow_add-row c = omega (arith, kept_row_small c.requires.0 c.args.j c.requires.1)

pub offset_bounds-service-j : goal.offset_bounds-service-j
offset_bounds-service-j c = omega (arith, kept_row_small c.requires.0 c.args.j c.requires.1)

pub slice_bounds-row-end : goal.slice_bounds-row-end
slice_bounds-row-end c = omega (arith, row_room c.requires.0 c.args.j c.requires.1)

pub bounds-kept-o : goal.bounds-kept-o
bounds-kept-o c = simp length-set (omega (arith, c.requires.0.room))

pub overflow_add-kept-2 : goal.overflow_add-kept-2
overflow_add-kept-2 c = let near = c.args.near in
    record {
      fits =
          enter_loss_fits c.requires.0 c.args.j c.requires.1 near.first near.second c.requires.3.ordered c.requires.3.within c.requires.2 _
          (enter_shifted c.requires.0 c.args.j c.requires.1 near.first near.second c.requires.3.ordered c.requires.3.within c.requires.2 _ c.shift_in.ensures) (omega arith);
    }

pub bounds-kept-o-2 : goal.bounds-kept-o-2
bounds-kept-o-2 c = simp length-set (omega (arith, c.requires.0.room))

pub bounds-kept-j-2 : goal.bounds-kept-j-2
bounds-kept-j-2 c = simp length-set (omega (arith, c.requires.0.room, c.requires.0.rows.few_clients))

pub returns : goal.returns
returns c = let a = c.args in
    let near = a.near in
    let shifted = enter_shifted c.requires.0 c.args.j c.requires.1 near.first near.second c.requires.3.ordered c.requires.3.within c.requires.2 _ c.shift_in.ensures in record {
      kept = enter_kept c.requires.0 a.j c.requires.1 near.first near.second c.requires.3.ordered c.requires.3.within c.requires.2 _
          shifted (omega arith);
      put = enter_put c.requires.0 a.j c.requires.1 near.first near.second c.requires.3.ordered c.requires.3.within c.requires.2 _
          shifted (omega arith);
    }
