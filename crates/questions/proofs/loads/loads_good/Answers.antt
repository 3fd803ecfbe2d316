-- `loads::loads_good` meets its contract: the test of each farm is the one that question 10 makes.
use Rattle.std.proofs.Common.{rules}
use Rattle.questions.proofs.RangeLaws.{all_in_range}
use Rattle.questions.proofs.loads.loads_good.Goals as goal

pub returns : goal.returns
returns c = all_in_range _ _ _ c.all.ensures.ran (λ x b q k. (search rules, λ l. search rules))
