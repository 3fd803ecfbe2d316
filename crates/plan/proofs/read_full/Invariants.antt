-- `read_full` ends, and no more bytes come than there is room for: each turn of the loop brings one or more.
use Rattle.std.proofs.Common.{◌≤◌, ◌-◌, length}
use Rattle.plan.proofs.read_full.Given as goal

abbrev pub invariant-loop-done : goal.invariant-loop-done
invariant-loop-done g l = l.done ≤ length l.input

abbrev pub decreases-loop-done : goal.decreases-loop-done
decreases-loop-done g l = length l.input - l.done
