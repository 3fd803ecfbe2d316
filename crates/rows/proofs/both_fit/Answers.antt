-- `both_fit` meets its contract: the three tests one after the other.
use Rattle.std.proofs.Common.{sym, ◌∙◌}
use borrow.Author.Tests.{lt-leb}
use Rattle.model.proofs.Bools.{clash, said_no, said_yes}
use Rattle.rows.proofs.CallLaws.{two_is, two_lack_row, two_overlap}
use Rattle.rows.proofs.both_fit.Goals as goal
use Rattle.rows.proofs.both_fit.Goals.{then-costs-ge-COLUMNS, else-costs-ge-COLUMNS}

pub returns-then-columns_fit : goal.returns-then-columns_fit
returns-then-columns_fit c = elim c.if-costs-ge-COLUMNS.branch [
  | then-costs-ge-COLUMNS w ↦
      c.columns_fit-then-columns_fit.ensures
      ∙ sym (two_is _ _ _ _ w.if-costs-ge-COLUMNS.true (said_yes w.columns_fit.ensures (sym w.value-is ∙ c.if-columns_fit.true)))
  | else-costs-ge-COLUMNS w ↦ clash (sym w.value-is ∙ c.if-columns_fit.true) (lt-leb _ _ w.if-costs-ge-COLUMNS.false)
]

pub returns-else-columns_fit : goal.returns-else-columns_fit
returns-else-columns_fit c = elim c.if-costs-ge-COLUMNS.branch [
  | then-costs-ge-COLUMNS w ↦
      c.if-columns_fit.false
      ∙ sym (two_overlap _ _ _ _ w.if-costs-ge-COLUMNS.true (said_no w.columns_fit.ensures (sym w.value-is ∙ c.if-columns_fit.false)))
  | else-costs-ge-COLUMNS w ↦ c.if-columns_fit.false ∙ sym (two_lack_row _ _ _ _ w.if-costs-ge-COLUMNS.false)
]
