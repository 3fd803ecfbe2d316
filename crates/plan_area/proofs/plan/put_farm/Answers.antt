-- `put_farm` meets its contract: the record of the nearest yard on the farm's stretch, at the offset.
use native.Mathlib.Nat.{lt_of_le_of_lt}
use native.Mathlib.Omega.{arith}
use mathlib.Core.Path.{ap, ◌∙◌}
use Rattle.record.specs.Records.{record_of, splice}
use Rattle.nearest.proofs.TellLaws.{told_or}
use Rattle.plan_area.proofs.FarmNearestLaws.{farm_listed}
use Rattle.questions.proofs.AmountLaws.{loads_small}
use Rattle.record.proofs.WriteLaws.{put_one}
use Rattle.plan_area.proofs.PlanRecordLaws.{farm_on, farm_from_lem}
use Rattle.plan_area.proofs.plan.put_farm.Goals as goal

pub overflow_cast-near : goal.overflow_cast-near
overflow_cast-near c = let o = c.args.open in
    let nearest_is = c.nearest_listed.ensures ∙ farm_listed _ _ _ _ o.sheet.shape c.requires.0 _ _ _ c.hauls.ensures o.listed in
    omega (
      arith,
      (farm_on _ _ _ _ o.sheet.shape _ c.requires.0 _ _ c.hauls.ensures nearest_is).2,
      (told_or c.nearest_listed.result c.unwrap_or-near.result c.unwrap_or-near.ensures).0,
    )

pub overflow_mul-result : goal.overflow_mul-result
overflow_mul-result c = let small = loads_small _ c.loads_byte-byte3.result c.unwrap_or-near.result.haul c.loads_of.ensures (omega arith) (omega (arith, c.unwrap_or-near.type_inv)) in
    record { fits = lt_of_le_of_lt small (omega arith) }

pub returns : goal.returns
returns c = let o = c.args.open in
    let r = c.unwrap_or-near.result in
    let byte = c.loads_byte-byte3 in
    let small = loads_small _ byte.result r.haul c.loads_of.ensures (omega arith) (omega (arith, c.unwrap_or-near.type_inv)) in
    let put = put_one _ _ _ _ (record_of 0x41 r.yard c.args.farm byte.result r.haul) c.requires.1 c.new-record.ensures c.put.ensures in
    let same = told_or c.nearest_listed.result r c.unwrap_or-near.ensures in
    let nearest_is = c.nearest_listed.ensures ∙ farm_listed _ _ _ _ o.sheet.shape c.requires.0 _ _ _ c.hauls.ensures o.listed in
    let is = farm_from_lem _ _ _ _ o.sheet.shape _ c.requires.0 _ _ _ _ c.hauls.ensures nearest_is (byte.ensures.loads c.requires.0) c.loads_of.ensures in
    record { exact = rw same.1 is.0; small = small; area = put ∙ ap (splice _ _) (rw (same.0, same.1) is.1) }
