-- `reading::no_rise` meets its contract: the two bands are those of the records.
use mathlib.Core.Path.{◌∙◌}
use native.Mathlib.Omega.{arith}
use Rattle.record.proofs.RecordLaws.{whole}
use Rattle.tariff.proofs.QuestionLaws.{band_read, rise_read}
use Rattle.tariff.proofs.reading.no_rise.Goals as goal

pub returns : goal.returns
returns c = rise_read _ _ _ _ c.requires.0 (band_read _ _ _ _ (c.at.ensures ∙ whole _ _ (omega arith)) c.from-before.ensures) (band_read _ _ _ _ (c.at-2.ensures ∙ whole _ _ (omega arith)) c.from-band.ensures)
