-- `sums::leave` meets its contract: the laws of the sums that are kept, with what `shift_out` answers.
use native.Mathlib.Omega.{arith}
use lib.ListN.{length-set}
use Rattle.engine.proofs.ClientSumLaws.{kept_row_small, row_room, leave_shifted}
use Rattle.engine.proofs.sums.SumChangeLaws.{leave_loss_fits, leave_loss_enough, leave_put, leave_kept}
use Rattle.engine.proofs.sums.leave.Goals as goal

pub overflow_cast-first : goal.overflow_cast-first
overflow_cast-first c = omega (arith, c.requires.0.ordered c.args.j c.requires.1, c.requires.0.within c.args.j c.requires.1)

pub overflow_cast-second : goal.overflow_cast-second
overflow_cast-second c = omega (arith, c.requires.0.ordered c.args.j c.requires.1, c.requires.0.within c.args.j c.requires.1)

pub overflow_mul-row : goal.overflow_mul-row
overflow_mul-row c = omega (arith, kept_row_small c.requires.0 c.args.j c.requires.1)

pub overflow_mul-row-2 : goal.overflow_mul-row-2
overflow_mul-row-2 c = omega (arith, kept_row_small c.requires.0 c.args.j c.requires.1)

pub overflow_add-row : goal.overflow_add-row
overflow_add-row c = omega (arith, kept_row_small c.requires.0 c.args.j c.requires.1)

pub offset_bounds-service-j : goal.offset_bounds-service-j
offset_bounds-service-j c = omega (arith, kept_row_small c.requires.0 c.args.j c.requires.1)

pub slice_bounds-row-end : goal.slice_bounds-row-end
slice_bounds-row-end c = omega (arith, row_room c.requires.0 c.args.j c.requires.1)

pub bounds-kept-o : goal.bounds-kept-o
bounds-kept-o c = simp length-set (omega (arith, c.requires.0.room))

pub overflow_cast-kept : goal.overflow_cast-kept
overflow_cast-kept c = omega (arith, c.requires.0.ordered c.args.j c.requires.1, c.requires.0.within c.args.j c.requires.1)

pub overflow_add-kept-2 : goal.overflow_add-kept-2
overflow_add-kept-2 c = record {
  fits = leave_loss_fits c.requires.0 c.args.j c.requires.1 _ (leave_shifted c.requires.0 c.args.j c.requires.1 _ c.shift_out.ensures) (omega arith);
}

pub overflow_cast-kept-2 : goal.overflow_cast-kept-2
overflow_cast-kept-2 c = omega (arith, c.requires.0.ordered c.args.j c.requires.1, c.requires.0.within c.args.j c.requires.1)

pub overflow_sub-kept : goal.overflow_sub-kept
overflow_sub-kept c = leave_loss_enough c.requires.0 c.args.j c.requires.1 _ (leave_shifted c.requires.0 c.args.j c.requires.1 _ c.shift_out.ensures) (omega arith)

pub bounds-kept-o-2 : goal.bounds-kept-o-2
bounds-kept-o-2 c = simp length-set (omega (arith, c.requires.0.room))

pub bounds-kept-j-5 : goal.bounds-kept-j-5
bounds-kept-j-5 c = simp length-set (omega (arith, c.requires.0.room, c.requires.0.rows.few_clients))

pub returns : goal.returns
returns c = let shifted = leave_shifted c.requires.0 c.args.j c.requires.1 _ c.shift_out.ensures in
    record {
      kept = leave_kept c.requires.0 c.args.j c.requires.1 _ shifted (omega arith);
      put = leave_put c.requires.0 c.args.j c.requires.1 _ shifted (omega arith);
    }
