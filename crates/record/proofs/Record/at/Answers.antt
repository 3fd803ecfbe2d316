-- `Record::at` meets its contract: the record where the bytes hold it whole, else zeros.
use mathlib.Core.Path.{sym, ap, ◌∙◌}
use native.Mathlib.Omega.{arith}
use Rattle.record.specs.Records.{record_of, record_at}
use Rattle.record.proofs.RecordLaws.{whole, not_whole}
use Rattle.record.proofs.Record.at.Goals as goal

pub returns-then-bytes-i : goal.returns-then-bytes-i
returns-then-bytes-i c = c.new.ensures ∙ sym (not_whole _ _ (omega arith))

pub returns : goal.returns
unfolding record_at
returns c = c.new-2.ensures ∙ ap (record_of _ _ _ _) (omega (arith, c.from_le_bytes-amount.ensures)) ∙ sym (whole _ _ (omega arith))
