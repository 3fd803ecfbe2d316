-- `change` meets its contract. The invariant: the sums of the columns passed have changed by their numbers, whichever way.
use Rattle.std.proofs.Common.{◌≡◌, ℕ}
use Rattle.model.specs.Passing.{through}
use Rattle.rows.specs.Shifts.{columns, change_at, FrontHolds}
use Rattle.rows.proofs.change.Given as goal

abbrev pub invariant-loop-i : goal.invariant-loop-i
invariant-loop-i g l =
    (f : ℕ → ℕ) → FrontHolds columns f l.by → l.sums ≡ through l.i (change_at (g.W.Way.changes f) l.at) l.initial.sums
