-- `put_yards_and_farms` meets its contract: the set's yards are listed once, for their own records and for those of the farms.
use native.Mathlib.Omega.{arith}
use mathlib.Core.Path.{sym, ◌∙◌}
use Rattle.sets.proofs.MemberLaws.{part_small, part_length, part_numbers, part_count, part_few}
use Rattle.plan_area.proofs.plan.YardsAndFarmsLaws.{total_is, body_is}
use Rattle.plan_area.proofs.plan.put_yards_and_farms.Goals as goal

pub shared_ref_as_front-open : goal.shared_ref_as_front-open
shared_ref_as_front-open c = part_small _ _ _ c.members_below-members.ensures

pub slice_bounds-open-end : goal.slice_bounds-open-end
slice_bounds-open-end c = part_length _ _ _ c.members_below-members.ensures

pub invariant_of-open : goal.invariant_of-open
invariant_of-open c = record { listed = part_numbers _ _ _ c.members_below-members.ensures c.args.sheet.shape.few_yards }

pub invariant_of-open-2 : goal.invariant_of-open-2
invariant_of-open-2 c = record { listed = part_numbers _ _ _ c.members_below-members.ensures c.args.sheet.shape.few_yards }

pub invariant_of-open-3 : goal.invariant_of-open-3
invariant_of-open-3 c = record { listed = part_numbers _ _ _ c.members_below-members.ensures c.args.sheet.shape.few_yards }

pub overflow_mul-open : goal.overflow_mul-open
overflow_mul-open c = omega (arith, part_small _ _ _ c.members_below-members.ensures, part_length _ _ _ c.members_below-members.ensures)

pub put_farms-hauls-requires : goal.put_farms-hauls-requires
put_farms-hauls-requires c = omega (arith, part_length _ _ _ c.members_below-members.ensures, part_few _ _ _ c.members_below-members.ensures c.args.sheet.shape.few_yards)

pub overflow_add-result : goal.overflow_add-result
overflow_add-result c = let shape = c.args.sheet.shape in
    omega (arith, shape.few_yards, shape.few_farms, c.put_opens-fees.ensures.small, c.put_farms-hauls.ensures.small)

pub returns : goal.returns
returns c = let farms = c.put_farms-hauls.ensures in
    let opens = c.put_opens-fees.ensures in
    let listed = c.members_below-members.ensures in
    let opened = sym (part_length _ _ _ listed) ∙ part_count _ _ _ listed c.args.sheet.shape.few_yards in
    record {
      «open» = opened;
      cost = total_is _ _ _ _ _ _ opens.exact farms.exact;
      area = body_is _ _ _ _ _ _ _ _ opened (omega arith) opens.area farms.area;
    }
