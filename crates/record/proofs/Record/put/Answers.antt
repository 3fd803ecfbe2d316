-- `Record::put` meets its contract: a record that does not fit changes nothing, else its eight bytes are copied.
use mathlib.Core.Path.{sym}
use native.Mathlib.Omega.{arith}
use Rattle.record.specs.Records.{word_bytes}
use Rattle.record.proofs.RecordLaws.{put_not, put_copied}
use Rattle.record.proofs.Record.put.Goals as goal

pub returns-then-area-lt-LEN : goal.returns-then-area-lt-LEN
returns-then-area-lt-LEN c = sym (put_not _ _ _ (omega arith))

pub returns-then-area-at : goal.returns-then-area-at
returns-then-area-at c = sym (put_not _ _ _ (omega arith))

pub returns : goal.returns
unfolding word_bytes
returns c =
    put_copied _ _ _ _ c.args.self (omega arith) c.copy_from_slice.ensures.after (rw c.to_le_bytes.ensures at c.copy_from_slice-2.ensures.after)
