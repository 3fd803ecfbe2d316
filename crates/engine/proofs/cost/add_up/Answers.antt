use mathlib.Core.Path.{refl}
use Prim.Native.Nat.{◌+◌}
use native.Mathlib.Nat.{not-suc-le-zero}
use native.Mathlib.Omega.{arith}
use lib.ListN.{get_or, length-set}
use Rattle.engine.specs.Bounds.{added_from}
use Rattle.model.proofs.PlaceLaws.{front_more}
use Rattle.engine.proofs.cost.add_up.Goals as goal

pub loop-i-init : goal.loop-i-init
loop-i-init c = (refl, λ k l. absurd (not-suc-le-zero l))

pub offset_bounds-opening-i : goal.offset_bounds-opening-i
offset_bounds-opening-i c = omega arith

pub bounds-opening-i : goal.bounds-opening-i
bounds-opening-i c = omega (arith, c.requires.opening_room)

pub overflow_add-costs : goal.overflow_add-costs
overflow_add-costs c = omega (arith, c.requires.small c.loop-i.i (omega arith))

pub overflow_add-costs-in-loop-i : goal.overflow_add-costs-in-loop-i
overflow_add-costs-in-loop-i c = omega arith

pub offset_bounds-kept-i : goal.offset_bounds-kept-i
offset_bounds-kept-i c = omega arith

pub bounds-kept-i : goal.bounds-kept-i
bounds-kept-i c = omega (arith, c.requires.kept_room)

pub overflow_add-costs-in-loop-i-2 : goal.overflow_add-costs-in-loop-i-2
overflow_add-costs-in-loop-i-2 c = omega (arith, c.requires.small c.loop-i.i (omega arith))

pub offset_bounds-costs-i : goal.offset_bounds-costs-i
offset_bounds-costs-i c = omega arith

pub bounds-costs-i : goal.bounds-costs-i
bounds-costs-i c = omega (arith, c.requires.costs_room, c.loop-i.invariant.0)

pub loop-i-preserved : goal.loop-i-preserved
loop-i-preserved c = let a = c.args in
    let l = c.loop-i in (
      simp length-set l.invariant.0,
      front_more (λ k. a.opened + get_or a.opening.now k 0 + get_or a.kept.now (added_from + k) 0) l.i _ l.costs
          (omega (arith, c.requires.costs_room, l.invariant.0)) refl l.invariant.1,
    )

pub returns : goal.returns
returns c = λ k l. c.loop-i.invariant.1 k (omega arith)
