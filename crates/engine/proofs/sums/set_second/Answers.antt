-- `sums::set_second` meets its contract: the laws of the sums that are kept, with what `shift` answers.
use lib.ListN.{length-set}
use Rattle.engine.proofs.ClientSumLaws.{kept_row_small, row_room, second_shifted}
use Rattle.engine.proofs.sums.SumChangeLaws.{second_loss_fits, second_loss_enough, second_put, second_kept}
use native.Mathlib.Omega.{arith}
use Rattle.engine.proofs.sums.set_second.Goals as goal

pub overflow_cast-last : goal.overflow_cast-last
overflow_cast-last c = omega (arith, c.requires.0.within c.args.j c.requires.1)

pub overflow_mul-row : goal.overflow_mul-row
overflow_mul-row c = omega (arith, kept_row_small c.requires.0 c.args.j c.requires.1)

pub overflow_mul-row-2 : goal.overflow_mul-row-2
overflow_mul-row-2 c = omega (arith, kept_row_small c.requires.0 c.args.j c.requires.1)

pub overflow_add-row : goal.overflow_add-row
overflow_add-row c = omega (arith, kept_row_small c.requires.0 c.args.j c.requires.1)

pub offset_bounds-service-j : goal.offset_bounds-service-j
offset_bounds-service-j c = omega (arith, kept_row_small c.requires.0 c.args.j c.requires.1)

pub slice_bounds-row-end : goal.slice_bounds-row-end
slice_bounds-row-end c = omega (arith, row_room c.requires.0 c.args.j c.requires.1)

pub overflow_add-kept-2 : goal.overflow_add-kept-2
overflow_add-kept-2 c = let shifted = second_shifted c.requires.0 c.args.j c.requires.1 c.args.second c.requires.2 c.requires.3 _ c.shift.ensures in
    record { fits = second_loss_fits c.requires.0 c.args.j c.requires.1 c.args.second c.requires.2 c.requires.3 _ shifted (omega arith) }

pub overflow_cast-kept-2 : goal.overflow_cast-kept-2
overflow_cast-kept-2 c = omega (arith, c.requires.0.within c.args.j c.requires.1)

pub overflow_sub-kept : goal.overflow_sub-kept
overflow_sub-kept c = second_loss_enough c.requires.0 c.args.j c.requires.1 c.args.second c.requires.2 c.requires.3 _
    (second_shifted c.requires.0 c.args.j c.requires.1 c.args.second c.requires.2 c.requires.3 _ c.shift.ensures) (omega arith)

pub bounds-kept-j-3 : goal.bounds-kept-j-3
bounds-kept-j-3 c = simp length-set (omega (arith, c.requires.0.room, c.requires.0.rows.few_clients))

pub returns : goal.returns
returns c = let a = c.args in
    let shifted = second_shifted c.requires.0 c.args.j c.requires.1 c.args.second c.requires.2 c.requires.3 _ c.shift.ensures in
    record {
      kept = second_kept c.requires.0 a.j c.requires.1 a.second c.requires.2 c.requires.3 _ shifted (omega arith);
      put = second_put c.requires.0 a.j c.requires.1 a.second c.requires.2 c.requires.3 _ shifted (omega arith);
    }
