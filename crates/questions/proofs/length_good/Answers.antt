-- `length_good` meets its contract: the test that fails decides question 1.
use Rattle.std.proofs.Common.{rules, tests}
use Rattle.questions.specs.Questions.{question1}
use Rattle.questions.proofs.length_good.Goals as goal

pub returns-then-sheet-eq0 : goal.returns-then-sheet-eq0
unfolding question1
returns-then-sheet-eq0 c = search (rules, tests)

pub returns-else-sheet-eq0 : goal.returns-else-sheet-eq0
unfolding question1
returns-else-sheet-eq0 c = search (rules, tests)
