-- `farm_moved` meets its contract: the two nearest yards on the farm's stretch, and its loads off the first record.
use native.Mathlib.Nat.{lt_of_le_of_lt}
use native.Mathlib.Omega.{arith}
use mathlib.Core.Path.{sym, ◌∙◌}
use Rattle.nearest.proofs.TellLaws.{told_or}
use Rattle.questions.proofs.AmountLaws.{loads_small}
use Rattle.shut.proofs.MovedLaws.{stays, moves}
use Prim.Native.Nat.{◌<◌}
use Rattle.shut.proofs.hauls_moved.farm_moved.Goals as goal

pub returns-then-first-shut : goal.returns-then-first-shut
returns-then-first-shut c = let first = told_or c.nearest_listed.result c.unwrap_or-first.result c.unwrap_or-first.ensures in
    let none = stays _ _ _ _ c.args.shut.yard _ c.args.shut.sheet.shape c.requires _ c.hauls-hauls.ensures _ _ c.args.shut.listed c.nearest_listed.ensures (rw (← first.0) c.if-first-shut.true) in
    record { there = none.0; elsewhere = none.1; small = (omega arith, omega arith) }

pub overflow_mul-result : goal.overflow_mul-result
overflow_mul-result c = let small = loads_small _ _ c.unwrap_or-first.result.haul c.loads_of-loads.ensures (omega arith) (omega (arith, c.unwrap_or-first.type_inv)) in
    record { fits = lt_of_le_of_lt small (omega arith) }

pub overflow_mul-result-2 : goal.overflow_mul-result-2
overflow_mul-result-2 c = let small = loads_small _ _ c.unwrap_or-second.result.haul c.loads_of-loads.ensures (omega arith) (omega (arith, c.unwrap_or-second.type_inv)) in
    record { fits = lt_of_le_of_lt small (omega arith) }

pub returns : goal.returns
returns c = let byte : c.loads_byte.result < 256 = omega arith in
    let there-small = loads_small _ _ c.unwrap_or-first.result.haul c.loads_of-loads.ensures byte (omega (arith, c.unwrap_or-first.type_inv)) in
    let elsewhere-small = loads_small _ _ c.unwrap_or-second.result.haul c.loads_of-loads.ensures byte (omega (arith, c.unwrap_or-second.type_inv)) in
    let first = told_or c.nearest_listed.result c.unwrap_or-first.result c.unwrap_or-first.ensures in
    let second = told_or c.nearest_listed-2.result c.unwrap_or-second.result c.unwrap_or-second.ensures in
    let is = moves _ _ _ _ c.args.shut.yard _ c.args.shut.sheet.shape c.requires _ c.hauls-hauls.ensures _ _ c.args.shut.listed c.nearest_listed.ensures (sym first.0 ∙ c.if-first-shut.false)
    _ _ _ _ c.args.shut.left c.nearest_listed-2.ensures (c.loads_byte.ensures.loads c.requires) c.loads_of-loads.ensures in
    record { there = rw first.1 is.0; elsewhere = rw second.1 is.1; small = (there-small, elsewhere-small) }
