-- `put_total_and_moves` meets its contract: two records, one behind the other.
use native.Mathlib.Omega.{arith}
use Rattle.plan_area.specs.Plan.{moves_record}
use Rattle.record.proofs.WriteLaws.{put_two}
use Rattle.plan_area.proofs.plan.put_total_and_moves.Goals as goal

pub returns : goal.returns
unfolding moves_record
returns c = record {
  next = omega arith;
  area = put_two _ _ _ _ _ _ _ _ (omega arith) c.new-sum.ensures c.put.ensures c.new-made.ensures c.put-2.ensures;
}
