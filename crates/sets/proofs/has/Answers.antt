-- `has` meets its contract: no bit from 32 on is set, and the others are read by a shift.
use Rattle.model.specs.Sets.{member}
use Rattle.sets.proofs.WithinLaws.{none_above}
use borrow.Author.Rules.{rules}
use Rattle.sets.proofs.has.Goals as goal

pub returns-then-i-ge-BITS : goal.returns-then-i-ge-BITS
returns-then-i-ge-BITS c = none_above _ _ (search rules) c.if-i-ge-BITS.true

pub returns : goal.returns
unfolding member
returns c = search rules
