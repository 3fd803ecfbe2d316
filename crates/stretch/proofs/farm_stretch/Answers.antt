-- `farm_stretch` meets its contract: each `return` is a case of `stretch`, and the offsets are small.
use mathlib.Core.Path.{refl, sym}
use native.Mathlib.Omega.{arith}
use Rattle.model.proofs.PlaceLaws.{few_places}
use Rattle.stretch.proofs.StretchLaws.{no_such_yards, no_such_farm, stretch_got}
use Rattle.stretch.proofs.farm_stretch.Goals as goal
use Rattle.stretch.proofs.farm_stretch.Goals.{then-yards-gt-MOST_YARDS-via-then-yards-gt-MOST_YARDS, then-yards-gt-MOST_YARDS-via-else-yards-gt-MOST_YARDS+then-farm-ge-MOST_FARMS}

pub returns-then-yards-gt-MOST_YARDS : goal.returns-then-yards-gt-MOST_YARDS
returns-then-yards-gt-MOST_YARDS c = elim c.then-yards-gt-MOST_YARDS.branch [
  | then-yards-gt-MOST_YARDS-via-then-yards-gt-MOST_YARDS w ↦ sym (no_such_yards _ _ _ w.if-yards-gt-MOST_YARDS.true)
  | then-yards-gt-MOST_YARDS-via-else-yards-gt-MOST_YARDS+then-farm-ge-MOST_FARMS w ↦
      sym (no_such_farm _ _ _ w.if-yards-gt-MOST_YARDS.false w.if-farm-ge-MOST_FARMS.true)
]

pub overflow_mul-from : goal.overflow_mul-from
overflow_mul-from c = omega (arith, few_places c.args.yards c.args.farm (omega arith) (omega arith))

pub overflow_add-from : goal.overflow_add-from
overflow_add-from c = omega (arith, few_places c.args.yards c.args.farm (omega arith) (omega arith))

pub overflow_mul-from-2 : goal.overflow_mul-from-2
overflow_mul-from-2 c = omega (arith, few_places c.args.yards c.args.farm (omega arith) (omega arith))

pub returns : goal.returns
returns c = let a = c.args in
    stretch_got a.sheet.now a.yards a.farm c.get.result _ _ (omega arith) (omega arith) refl c.get.ensures.lookup c.unwrap_or.ensures
