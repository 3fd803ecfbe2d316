-- `shift_in` meets its contract: the client is counted where there is room.
use Rattle.model.proofs.Bools.{said_no, said_yes}
use Rattle.std.proofs.Common.{refl}
use Rattle.rows.proofs.CallLaws.{two_room, in_refused, in_shifted}
use Rattle.rows.proofs.shift_in.Goals as goal

pub count-requires : goal.count-requires
count-requires c =
    let r = two_room _ _ _ _ (said_yes c.both_fit.ensures c.if-both_fit.true) in
    record { row = r.row; apart = r.apart; room = r.room }

pub returns-then-both_fit : goal.returns-then-both_fit
returns-then-both_fit c = in_shifted _ _ _ _ _ _ _ _ (said_yes c.both_fit.ensures c.if-both_fit.true) refl c.count.ensures

pub returns-else-both_fit : goal.returns-else-both_fit
returns-else-both_fit c = in_refused _ _ _ _ _ _ (said_no c.both_fit.ensures c.if-both_fit.false)
