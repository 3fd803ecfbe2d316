use native.Mathlib.Omega.{arith}
use Rattle.plan_area.proofs.plan.YardsAndFarmsLaws.{served_none, served_more, served_all}
use Rattle.plan_area.proofs.plan.put_farms.Goals as goal

pub loop-farm-init : goal.loop-farm-init
loop-farm-init c = served_none _ _ _ _ _ _

pub overflow_mul-farm : goal.overflow_mul-farm
overflow_mul-farm c = omega (arith, c.args.open.sheet.shape.few_farms)

pub put_farm-total-requires : goal.put_farm-total-requires
put_farm-total-requires c = (c.loop-farm-test.true, omega (arith, c.loop-farm.invariant.written.long))

pub overflow_add-total : goal.overflow_add-total
overflow_add-total c = omega (arith, c.args.open.sheet.shape.few_farms, c.loop-farm.invariant.summed.small)

pub loop-farm-preserved : goal.loop-farm-preserved
loop-farm-preserved c = let put = c.put_farm-total.ensures in
    served_more _ _ _ _ _ _ _ _ _ _ _ (omega arith) c.loop-farm.invariant put.exact put.small put.area

pub returns : goal.returns
returns c = let told = served_all _ _ _ _ _ _ _ _ _ (omega arith) c.loop-farm.invariant in
    record { exact = told.0; small = told.1.0; area = told.1.1 }
