use native.Mathlib.Omega.{arith}
use Rattle.sets.proofs.MemberLaws.{listed_next}
use Rattle.plan_area.proofs.plan.YardsAndFarmsLaws.{opened_none, open_room, opened_small, opened_more, opened_all}
use Rattle.plan_area.proofs.plan.put_opens.Goals as goal

pub loop-t-init : goal.loop-t-init
loop-t-init c = opened_none _ _ _ _ _ _

pub overflow_mul-t : goal.overflow_mul-t
overflow_mul-t c = let o = c.args.open in
    omega (arith, open_room _ _ _ _ _ _ o.listed c.requires _ _ _ c.loop-t-test.true c.loop-t.invariant)

pub put_open-fee-requires : goal.put_open-fee-requires
put_open-fee-requires c = let o = c.args.open in
    let yard = listed_next _ _ _ o.listed _ c.loop-t-test.true in
    (yard.below, yard.is_in_lem, open_room _ _ _ _ _ _ o.listed c.requires _ _ _ c.loop-t-test.true c.loop-t.invariant)

pub overflow_add-total : goal.overflow_add-total
overflow_add-total c = let o = c.args.open in
    omega (arith, opened_small _ _ _ _ _ _ o.listed c.requires _ _ _ o.sheet.shape.few_yards c.loop-t-test.true c.loop-t.invariant)

pub loop-t-preserved : goal.loop-t-preserved
loop-t-preserved c = let put = c.put_open-fee.ensures in
    opened_more _ _ _ _ _ _ c.args.open.listed c.requires _ _ _ _ _ c.loop-t-test.true c.loop-t.invariant put.fee (omega arith) put.area

pub returns : goal.returns
returns c = let told = opened_all _ _ _ _ _ _ c.args.open.listed c.requires _ _ _ (omega arith) c.loop-t.invariant in
    record { exact = told.0; small = told.1.0; area = told.1.1 }
