-- For private functions: what the pass that prices a sheet takes off its records.
use Rattle.std.specs.Prelude.{ℕ, ◌<◌, ◌≡◌, Bool, true, cond, List, eqb, leb, get_or}
use Rattle.model.specs.Loops.{all_below}
use Rattle.record.specs.declared.Record.{Record}
use Rattle.record.specs.Records.{records, record_at}
use Rattle.questions.specs.Bounds.{haul_kind}

-- the distance that a haul record holds; 0 for any other
unfoldable pub distance_of : Record → ℕ
distance_of r = cond (eqb r.kind haul_kind) r.amount 0

-- the distance of record i is not past the reach
unfoldable pub within_reach : ℕ → List ℕ → ℕ → Bool
within_reach reach s i = leb (distance_of (record_at s i)) reach

-- these are the distances of all records, and none is past the reach
pub record NearRecords (reach : ℕ) (s distances : List ℕ) : Type 0 where
  pub distances_are : (k : ℕ) → k < records s → get_or distances k 0 ≡ distance_of (record_at s k)
  pub near : all_below (records s) (within_reach reach s) ≡ true
