-- `with_record` meets its contract: a record of kind 4F and any other are the cases of `with_record`.
use Rattle.plan_set.proofs.OpenedLaws.{with_opened, with_other}
use Rattle.plan_set.proofs.with_record.Goals as goal

pub returns-then-record : goal.returns-then-record
returns-then-record c = with_opened _ _ _ c.at-record.result c.requires c.at-record.ensures _ c.if-record.true c.added.ensures

pub returns-else-record : goal.returns-else-record
returns-else-record c = with_other _ _ _ c.at-record.result c.requires c.at-record.ensures c.if-record.false
