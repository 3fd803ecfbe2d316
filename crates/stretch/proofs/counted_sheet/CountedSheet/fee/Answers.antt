-- `CountedSheet::fee` meets its contract: a yard's record lies within the sheet.
use Rattle.questions.proofs.AmountLaws.{yard_fee}
use Rattle.stretch.proofs.counted_sheet.CountedSheet.fee.Goals as goal

pub returns-clause-fee : goal.returns-clause-fee
returns-clause-fee c below = yard_fee _ _ _ c.args.self.shape _ below _ c.at.ensures
