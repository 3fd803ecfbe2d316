-- The plan area (document 01): the records of a plan, where they are written, and how its yards are read off again.
use Rattle.std.specs.Prelude.{ℕ, ◌+◌, ◌*◌, ◌/◌, ◌%◌, ◌^◌, Bool, cond, ◌&&◌, List, [], ◌++◌, length, eqb, leb}
use Rattle.model.specs.Loops.{on, sum, join}
use Rattle.model.specs.Least.{any}
use Rattle.model.specs.Sets.{count, member}
use Rattle.model.specs.Instance.{Instance, nearest, assigned, total_cost}
use Rattle.record.specs.Records.{record_of, record_at, bytes_of, amount_end}
use Rattle.questions.specs.Bounds.{most_yards, most_farms}
use Rattle.questions.specs.Sheet.{farm_byte, instance_by}
use Rattle.plan_area.specs.declared.plan.Total.{Total}
use Rattle.plan_area.specs.declared.plan.Total.TheVariants.{FullCost, Given}

-- the kinds of a plan's records
abbrev pub open_kind : ℕ
open_kind = 0x4F

abbrev pub farm_kind : ℕ
farm_kind = 0x41

abbrev pub total_kind : ℕ
total_kind = 0x54

abbrev pub moves_kind : ℕ
moves_kind = 0x4D

-- "One of kind 4F hex for each open yard by number (byte 1 yard, amount its fee)."
unfoldable pub open_record : Instance → ℕ → ℕ → List ℕ
open_record I set i = cond (member set i) (bytes_of (record_of open_kind i 0 0 (I.opening i))) []

-- "One of kind 41 hex for each farm by number (byte 1 its yard, byte 2 the farm, amount its haul)." Document 02, paper 2: "the farm record
-- repeats the byte" of its loads, `byte3` by farm, and "still shows the haul of one load".
unfoldable pub farm_record : Instance → (ℕ → ℕ) → ℕ → ℕ → List ℕ
farm_record I byte3 set j = bytes_of (record_of farm_kind (assigned I (member set) j) j (byte3 j) (nearest I (member set) j))

-- "One of kind 54 hex (byte 1 the count of open yards, byte 2 n, amount the total)."
unfoldable pub total_record : Instance → ℕ → ℕ → List ℕ
total_record I set total = bytes_of (record_of total_kind (count I.facilities (member set)) I.clients 0 total)

-- "One of kind 4D hex (amount the moves made)."
unfoldable pub moves_record : ℕ → List ℕ
moves_record moves = bytes_of (record_of moves_kind 0 0 0 moves)

-- "Records as above, in this order."
unfoldable pub plan_bytes : Instance → (ℕ → ℕ) → ℕ → ℕ → ℕ → List ℕ
plan_bytes I byte3 set total moves =
    join I.facilities (open_record I set) ++ join I.clients (farm_record I byte3 set) ++ total_record I set total ++ moves_record moves

-- 9. Is the lent plan area at least 8 × (m + n + 2) bytes?
unfoldable pub question9 : ℕ → ℕ → ℕ → Bool
question9 m n room = leb (8 * (m + n + 2)) room

-- the same, for counts that need not be those of an accepted sheet
unfoldable pub plan_fits : ℕ → ℕ → ℕ → Bool
plan_fits m n room = leb 1 m && (leb m most_yards && (leb n most_farms && question9 m n room))

-- what the record of the total shows of a set at this full cost: as much as four bytes hold of it, or the amount that is given
abbrev pub total_amount : Total → ℕ → ℕ
total_amount FullCost cost = cost % amount_end
total_amount (Given amount) cost = amount

-- the plan of a set on a sheet of m yards and n farms; nothing where the sheet has not so many records or the area is too small
unfoldable pub writing : List ℕ → ℕ → ℕ → ℕ → Total → ℕ → ℕ → List ℕ
writing s m n set total moves room =
    cond (plan_fits m n room && leb (8 * (m + n * m)) (length s))
    (plan_bytes (instance_by s m n) (farm_byte s m) set (total_amount total (total_cost (instance_by s m n) (member set))) moves) []

-- "Ours is the yards in the plan's records of kind 4F": is record i of the area one for this yard
unfoldable pub opens_at : List ℕ → ℕ → ℕ → Bool
opens_at area yard i = eqb (record_at area i).kind open_kind && eqb (record_at area i).yard yard

-- the yards in the records of kind 4F among so many bytes written, as a set
unfoldable pub plan_set : List ℕ → ℕ → ℕ
plan_set area bytes = sum most_yards (λ yard. on (any (bytes / 8) (opens_at area yard)) (2 ^ yard))
