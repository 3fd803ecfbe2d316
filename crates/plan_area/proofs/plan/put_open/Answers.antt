-- `put_open` meets its contract: the record has the yard's fee.
use mathlib.Core.Path.{sym, ap, ◌∙◌}
use Rattle.record.specs.declared.Record.{Record}
use Rattle.record.specs.Records.{record_of, splice}
use Rattle.record.proofs.WriteLaws.{put_one}
use Rattle.plan_area.proofs.PlanRecordLaws.{open_with}
use Rattle.plan_area.proofs.plan.put_open.Goals as goal

pub returns : goal.returns
returns c = let fee = ap (λ (r : Record). r.amount) c.new-record.ensures ∙ c.fee.ensures.fee c.requires.0 in record {
  fee = fee;
  area = put_one _ _ _ _ (record_of 0x4F c.args.yard 0 0 c.fee.result) c.requires.2 c.new-record.ensures c.put.ensures
      ∙ ap (splice _ _) (sym (open_with _ _ _ _ _ c.requires.1 _ (c.fee.ensures.fee c.requires.0)));
}
