-- `members_below` meets its contract. The invariant: the list holds the set's numbers below i, and zeros behind them.
use mathlib.Core.Path.{◌≡◌}
use Rattle.sets.specs.Members.{rising_below, listing}
use Rattle.sets.proofs.MemberLaws.{members}
use Rattle.sets.proofs.members_below.Given as goal

abbrev pub invariant-loop-i : goal.invariant-loop-i
invariant-loop-i l = members l.list l.count ≡ listing (rising_below l.i l.set)
