-- `one_pass::record_within` meets its contract: the record is read as a part of the sheet.
use mathlib.Core.Path.{refl, ◌∙◌}
use Rattle.record.proofs.RecordLaws.{eight_bytes}
use Rattle.sheet.proofs.one_pass.record_within.Goals as goal

pub returns : goal.returns
returns c = c.at.ensures ∙ eight_bytes _ _ _ c.requires refl
