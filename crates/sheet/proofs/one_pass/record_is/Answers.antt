-- `one_pass::record_is` meets its contract: it makes the tests of `record_is` in their order.
use Rattle.std.proofs.Common.{rules, tests}
use Rattle.sheet.specs.OnePass.{record_is}
use Rattle.sheet.proofs.one_pass.record_is.Goals as goal

pub returns-then-tested-byte3 : goal.returns-then-tested-byte3
unfolding record_is
returns-then-tested-byte3 c = search (rules, tests)

pub returns-else-tested-byte3 : goal.returns-else-tested-byte3
unfolding record_is
returns-else-tested-byte3 c = search (rules, tests)
