-- `write_plan` meets its contract: nothing where the plan does not fit or the sheet is too short, else the plan in two writes.
use native.Mathlib.Omega.{arith}
use mathlib.Core.Path.{sym}
use Rattle.model.proofs.Bools.{said_no, said_yes}
use Rattle.record.proofs.SpliceLaws.{splice_none}
use Rattle.plan_area.proofs.PlanRecordLaws.{fits_says, few_records, fits_shape, writes_none, writes_short, end_room, writes_all}
use Rattle.plan_area.proofs.plan.write_plan.Goals as goal

pub returns-then-not-plan_fits : goal.returns-then-not-plan_fits
returns-then-not-plan_fits c = record {
  bytes = rw (writes_none _ _ _ _ _ _ _ (said_no c.plan_fits.ensures c.if-not-plan_fits.true)) (omega arith);
  area = rw (writes_none _ _ _ _ _ _ _ (said_no c.plan_fits.ensures c.if-not-plan_fits.true)) (sym (splice_none _ _));
}

pub overflow_mul-farms : goal.overflow_mul-farms
overflow_mul-farms c = omega (arith, few_records _ _ _ (said_yes c.plan_fits.ensures c.if-not-plan_fits.false))

pub overflow_add-yards : goal.overflow_add-yards
overflow_add-yards c = omega (arith, few_records _ _ _ (said_yes c.plan_fits.ensures c.if-not-plan_fits.false))

pub overflow_mul-yards : goal.overflow_mul-yards
overflow_mul-yards c = omega (arith, few_records _ _ _ (said_yes c.plan_fits.ensures c.if-not-plan_fits.false))

pub returns-then-sheet-yards : goal.returns-then-sheet-yards
returns-then-sheet-yards c = record {
  bytes = rw (writes_short _ _ _ _ _ _ _ (said_yes c.plan_fits.ensures c.if-not-plan_fits.false) c.if-sheet-yards.true) (omega arith);
  area = rw (writes_short _ _ _ _ _ _ _ (said_yes c.plan_fits.ensures c.if-not-plan_fits.false) c.if-sheet-yards.true) (sym (splice_none _ _));
}

pub invariant_of-counted : goal.invariant_of-counted
invariant_of-counted c = let fits = said_yes c.plan_fits.ensures c.if-not-plan_fits.false in
    record { shape = fits_shape _ _ _ _ fits c.if-sheet-yards.false }

pub put_yards_and_farms-totals-requires : goal.put_yards_and_farms-totals-requires
put_yards_and_farms-totals-requires c = omega (arith, (fits_says _ _ _ (said_yes c.plan_fits.ensures c.if-not-plan_fits.false)).enough)

pub put_total_and_moves-requires : goal.put_total_and_moves-requires
put_total_and_moves-requires c = let fits = said_yes c.plan_fits.ensures c.if-not-plan_fits.false in
    let room = end_room _ _ _ _ _ fits c.put_yards_and_farms-totals.ensures.open in
    (room.0, room.1, omega (arith, room.2))

pub returns : goal.returns
returns c = let fits = said_yes c.plan_fits.ensures c.if-not-plan_fits.false in
    let told = writes_all _ _ _ _ _ _ _ _ _ _ _ _ _ fits c.if-sheet-yards.false c.put_yards_and_farms-totals.ensures.open c.put_yards_and_farms-totals.ensures.cost c.amount_of-amount.ensures c.put_yards_and_farms-totals.ensures.area
    c.put_total_and_moves.ensures.next c.put_total_and_moves.ensures.area in
    record { bytes = told.0; area = told.1 }
