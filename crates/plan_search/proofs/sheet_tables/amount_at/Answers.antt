-- `sheet_tables::amount_at` meets its contract: the record is read as a part of the sheet.
use mathlib.Core.Path.{refl}
use Rattle.record.proofs.RecordLaws.{part_amount}
use Rattle.plan_search.proofs.sheet_tables.amount_at.Goals as goal

pub returns : goal.returns
returns c = part_amount _ _ _ _ c.requires refl c.at-record.ensures
