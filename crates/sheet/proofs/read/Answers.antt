-- `read` meets its contract: each `return` is a case of `reading`.
use mathlib.Core.Path.{sym}
use Rattle.model.proofs.Bools.{said_no, said_yes}
use Rattle.sheet.proofs.HaulLaws.{zero_rows}
use Rattle.sheet.proofs.ToldLaws.{rule_broken, rule_kept}
use Rattle.sheet.proofs.read.Goals as goal

pub counts_of-requires : goal.counts_of-requires
counts_of-requires c = zero_rows

pub returns-then-not-keeps_rule : goal.returns-then-not-keeps_rule
returns-then-not-keeps_rule c = sym (rule_broken _ _ _ _ c.in-Some.ensures (said_no c.keeps_rule.ensures c.if-not-keeps_rule.true))

pub returns : goal.returns
returns c = sym (rule_kept _ _ _ _ c.in-Some.ensures (said_yes c.keeps_rule.ensures c.if-not-keeps_rule.false))
