-- `sums::change` meets its contract: the second alone, or the client counted out and in again.
use Rattle.engine.proofs.sums.SumChangeLaws.{put_as, put_again}
use Rattle.engine.proofs.sums.change.Goals as goal

pub returns-then-kept-j : goal.returns-then-kept-j
returns-then-kept-j c = let answer = c.set_second.ensures in
    record { kept = answer.kept; put = put_as c.if-kept-j.true answer.put }

pub returns-else-kept-j : goal.returns-else-kept-j
returns-else-kept-j c = let answer = c.enter.ensures in
    record { kept = answer.kept; put = put_again c.leave.ensures.put answer.put }
