-- `near::packed_at` meets its contract.
use Prim.Native.Nat.{◌+◌, ◌*◌}
use mathlib.Core.Path.{refl}
use native.Mathlib.Omega.{arith}
use Rattle.model.specs.TwoLeast.{packed}
use Rattle.engine.proofs.NearLaws.{entry_within_lem, entry_early}
use Rattle.engine.proofs.near.packed_at.Goals as goal

pub overflow_mul-result : goal.overflow_mul-result
overflow_mul-result c = omega (arith, entry_early _ _ _ c.args.service.rows _ _ c.requires.0 c.requires.1)

pub overflow_add-result : goal.overflow_add-result
overflow_add-result c = omega (arith, entry_early _ _ _ c.args.service.rows _ _ c.requires.0 c.requires.1)

pub offset_bounds-service-j : goal.offset_bounds-service-j
offset_bounds-service-j c = omega (arith, entry_early _ _ _ c.args.service.rows _ _ c.requires.0 c.requires.1)

pub bounds-service-j : goal.bounds-service-j
bounds-service-j c = let p = c.requires in entry_within_lem _ _ _ c.args.service.rows _ _ p.0 p.1

pub overflow_cast-result : goal.overflow_cast-result
overflow_cast-result c = let a = c.args in omega (arith, c.args.service.rows.within (a.j * a.service.m + a.i))

pub overflow_mul-result-2 : goal.overflow_mul-result-2
overflow_mul-result-2 c = let a = c.args in omega (arith, c.args.service.rows.within (a.j * a.service.m + a.i))

pub overflow_add-result-2 : goal.overflow_add-result-2
overflow_add-result-2 c = let a = c.args in
    omega (arith, c.args.service.rows.within (a.j * a.service.m + a.i), c.args.service.rows.few_facilities, c.requires.1)

pub returns : goal.returns
unfolding packed
returns c = refl
