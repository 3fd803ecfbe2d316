-- `yards::yards_good` meets its contract: the first test that fails decides question 3.
use mathlib.Core.Path.{sym, ◌∙◌}
use native.Mathlib.Omega.{arith}
use Rattle.model.proofs.Bools.{said_no, said_yes}
use Rattle.questions.proofs.QuestionLaws.{no_yards, many_yards, misnumbered, well_numbered}
use Rattle.questions.proofs.FormLaws.{yards_le}
use Rattle.questions.proofs.yards.yards_good.Goals as goal

pub returns-then-m-lt1 : goal.returns-then-m-lt1
returns-then-m-lt1 c = sym (no_yards _ (omega arith))

pub returns-then-m-gt-MOST_YARDS : goal.returns-then-m-gt-MOST_YARDS
returns-then-m-gt-MOST_YARDS c = sym (many_yards _ (omega arith) (omega arith))

pub all_numbered-requires : goal.all_numbered-requires
all_numbered-requires c = omega (arith, yards_le c.args.sheet.now)

pub returns-then-not-all_numbered : goal.returns-then-not-all_numbered
returns-then-not-all_numbered c = sym (misnumbered _ (omega arith) (omega arith) (rw (← c.requires) (said_no c.all_numbered.ensures c.if-not-all_numbered.true)))

pub returns : goal.returns
returns c = c.no_yard_after.ensures ∙ rw c.requires (well_numbered _ (omega arith) (omega arith) (rw (← c.requires)
    (said_yes c.all_numbered.ensures c.if-not-all_numbered.false)))
