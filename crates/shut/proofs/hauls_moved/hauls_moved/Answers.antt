use native.Mathlib.Omega.{arith}
use mathlib.Core.Path.{ap, ◌∙◌}
use Rattle.sets.specs.Members.{rising_below}
use Rattle.sets.proofs.MemberLaws.{part_small, part_length, part_numbers}
use Rattle.shut.proofs.MovedLaws.{moved_none, moved_more, moved_all}
use Rattle.shut.proofs.hauls_moved.hauls_moved.Goals as goal

pub loop-farm-init : goal.loop-farm-init
loop-farm-init c = moved_none _ _ _ _ _

pub shared_ref_as_front-yards : goal.shared_ref_as_front-yards
shared_ref_as_front-yards c = part_small _ _ _ c.members_below-open.ensures

pub slice_bounds-yards-end : goal.slice_bounds-yards-end
slice_bounds-yards-end c = part_length _ _ _ c.members_below-open.ensures

pub shared_ref_as_front-others : goal.shared_ref_as_front-others
shared_ref_as_front-others c = part_small _ _ _ c.members_below-left.ensures

pub slice_bounds-others-end : goal.slice_bounds-others-end
slice_bounds-others-end c = part_length _ _ _ c.members_below-left.ensures

pub invariant_of-shut : goal.invariant_of-shut
invariant_of-shut c = let few = c.args.sheet.shape.few_yards in record {
  listed = part_numbers _ _ _ c.members_below-open.ensures few;
  left = part_numbers _ _ _ c.members_below-left.ensures few ∙ ap (rising_below c.args.sheet.yards) c.removed.ensures;
}

pub overflow_add-there : goal.overflow_add-there
overflow_add-there c = record {
  fits = omega (arith, c.loop-farm.invariant.there_so_far.small, c.farm_moved-moved.ensures.small.0, c.args.sheet.shape.few_farms);
}

pub overflow_add-elsewhere : goal.overflow_add-elsewhere
overflow_add-elsewhere c = record {
  fits = omega (arith, c.loop-farm.invariant.elsewhere_so_far.small, c.farm_moved-moved.ensures.small.1, c.args.sheet.shape.few_farms);
}

pub loop-farm-preserved : goal.loop-farm-preserved
loop-farm-preserved c = moved_more _ _ _ _ _ _ _ _ _ _ c.loop-farm.invariant c.farm_moved-moved.ensures.there c.farm_moved-moved.ensures.elsewhere c.farm_moved-moved.ensures.small

pub returns : goal.returns
returns c = let told = moved_all _ _ _ _ _ _ _ _ (omega arith) c.loop-farm.invariant in
    record { there = told.0; elsewhere = told.1.0; small = told.1.1 }
