-- `differences` meets its contract. The invariant: the differences of the columns passed are taken.
use Rattle.std.proofs.Common.{◌≡◌, length}
use Rattle.rows.specs.Shifts.{above_at, between_at, FrontHolds}
use Rattle.rows.proofs.differences.Given as goal

abbrev pub invariant-loop-i : goal.invariant-loop-i
invariant-loop-i l = (length l.whole ≡ 32) × (length l.part ≡ 32)
    × FrontHolds l.i (above_at l.costs l.low) l.whole × FrontHolds l.i (between_at l.costs l.low l.high) l.part
