-- `block::priced_record` meets its contract: a haul record gets the haul, any other keeps its amount.
use mathlib.Core.Path.{sym}
use Rattle.distances.proofs.PricedLaws.{priced_haul, priced_other}
use Rattle.distances.proofs.block.priced_record.Goals as goal

pub returns-then-is_haul : goal.returns-then-is_haul
returns-then-is_haul c = sym (priced_haul _ _ c.if-is_haul.true)

pub returns-else-is_haul : goal.returns-else-is_haul
returns-else-is_haul c = sym (priced_other _ _ c.if-is_haul.false)
