-- `CountedSheet::loads_byte` meets its contract: the byte of a farm's loads stands in the first of its haul records.
use Rattle.stretch.proofs.FarmLaws.{byte_on}
use Rattle.stretch.proofs.counted_sheet.CountedSheet.loads_byte.Goals as goal

pub returns-clause-loads : goal.returns-clause-loads
returns-clause-loads c below = byte_on _ _ _ _ c.args.self.shape below _ _ c.hauls.ensures c.at.ensures
