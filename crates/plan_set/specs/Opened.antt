-- The yards in the first records of an area, for private functions alone.
use Rattle.std.specs.Prelude.{ℕ, ◌^◌, cond, List, eqb}
use Rattle.model.specs.Loops.{on, sum}
use Rattle.model.specs.Least.{any}
use Rattle.sets.specs.Within.{with32}
use Rattle.record.specs.Records.{record_at}
use Rattle.questions.specs.Bounds.{most_yards}
use Rattle.plan_area.specs.Plan.{open_kind, opens_at}

-- those of kind 4F among n records
unfoldable pub opened_by : List ℕ → ℕ → ℕ
opened_by area n = sum most_yards (λ yard. on (any n (opens_at area yard)) (2 ^ yard))

-- the set with the yard of record i, where it is of that kind
unfoldable pub with_record : List ℕ → ℕ → ℕ → ℕ
with_record area i set = cond (eqb (record_at area i).kind open_kind) (with32 set (record_at area i).yard) set
