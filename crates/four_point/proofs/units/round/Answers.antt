use mathlib.Core.Path.{◌≡◌}
use native.Mathlib.Omega.{arith}
use Rattle.four_point.proofs.RoundedLaws.{in_units_none, in_units_more, above_none, above_more}
use Rattle.four_point.proofs.units.round.Goals as goal

pub loop-k-init : goal.loop-k-init
loop-k-init c = record {
  small = omega arith;
  above = above_none c.args.table.now;
  units = in_units_none c.args.table.now c.args.units.now;
}

pub overflow_add-above : goal.overflow_add-above
overflow_add-above c = record { fits = omega (arith, c.type_inv.table c.loop-k.k) }

pub loop-k-preserved : goal.loop-k-preserved
loop-k-preserved c = let l = c.loop-k in
    let table = c.args.table.now in
    record {
      small = omega (arith, c.type_inv.table l.k);
      above = above_more table l.k l.above l.invariant.above;
      units = in_units_more l.k table l.units (omega arith) l.invariant.units;
    }

pub returns : goal.returns
returns c = let l = c.loop-k in
    let done : l.k ≡ c.args.count = omega arith in
    record { above = rw done at l.invariant.above; units = λ k b. l.invariant.units k (omega arith) }
