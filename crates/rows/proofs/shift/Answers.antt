-- `shift` meets its contract: room for the row and for the sums, then up or down.
use Rattle.model.proofs.Bools.{said_no, said_yes}
use Rattle.rows.proofs.CallLaws.{fits_true, no_row, no_room_for_sums, shifts_up, shifts_down}
use Rattle.rows.proofs.shift.Goals as goal

pub returns-then-costs-lt-COLUMNS : goal.returns-then-costs-lt-COLUMNS
returns-then-costs-lt-COLUMNS c = no_row _ _ _ _ _ c.if-costs-lt-COLUMNS.true

pub returns-then-not-columns_fit : goal.returns-then-not-columns_fit
returns-then-not-columns_fit c = no_room_for_sums _ _ _ _ _ c.if-costs-lt-COLUMNS.false (said_no c.columns_fit.ensures c.if-not-columns_fit.true)

pub change-requires : goal.change-requires
change-requires c = fits_true _ _ (said_yes c.columns_fit.ensures c.if-not-columns_fit.false)

pub change-requires-else-plus-minus : goal.change-requires-else-plus-minus
change-requires-else-plus-minus c = fits_true _ _ (said_yes c.columns_fit.ensures c.if-not-columns_fit.false)

pub returns-then-plus-minus : goal.returns-then-plus-minus
returns-then-plus-minus c =
    shifts_up _ _ _ _ _ _ c.if-costs-lt-COLUMNS.false (said_yes c.columns_fit.ensures c.if-not-columns_fit.false) c.if-plus-minus.true
    (c.change.ensures _ c.differences.ensures.part)

pub returns-else-plus-minus : goal.returns-else-plus-minus
returns-else-plus-minus c =
    shifts_down _ _ _ _ _ _ c.if-costs-lt-COLUMNS.false (said_yes c.columns_fit.ensures c.if-not-columns_fit.false) c.if-plus-minus.false
    (c.change-else-plus-minus.ensures _ c.differences-else-plus-minus.ensures.part)
