-- `high_count` meets its contract: the sum of the tests is how many hold, and no more than there are.
use Rattle.std.proofs.Common.{rules, ◌≡◌, ◌∙◌, ◌<◌, ◌^◌}
use Rattle.std.specs.List.{sum_by}
use Rattle.std.proofs.iter.runs.Made.{chains}
use Rattle.std.proofs.lemmas.List.Sums.{count_by-le-length}
use native.Mathlib.Omega.{arith}
use lib.Dec.{ltb}
use mir.Val.{bool_byte}
use Rattle.model.proofs.RangeLaws.{sum_tests}
use Rattle.tables.specs.Bounds.{most_entry}
use Rattle.tables.proofs.high_count.Goals as goal

pub sum-requires-clause-fits : goal.sum-requires-clause-fits
sum-requires-clause-fits c = let entries = c.args.entries.now in
    let fits : sum_by (λ entry. bool_byte (ltb most_entry entry)) entries < 2 ^ 32 =
    omega (arith, sum_tests (ltb most_entry) entries, count_by-le-length (ltb most_entry) entries) in
    search (rules, chains)

pub returns : goal.returns
returns c = let sum : c.sum.result ≡ sum_by (λ entry. bool_byte (ltb most_entry entry)) c.args.entries.now = search (rules, chains) in
    sum ∙ sum_tests (ltb most_entry) c.args.entries.now
