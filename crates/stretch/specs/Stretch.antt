-- A farm's stretch of the sheet: its haul records, where they lie.
use Rattle.std.specs.Prelude.{ℕ, ◌+◌, ◌*◌, ◌≤◌, ◌≡◌, cond, ◌&&◌, List, [], length, take, drop, leb, ltb}
use Rattle.questions.specs.Bounds.{most_yards, most_farms}
use Rattle.model.specs.Answers.{Answer, accepted, refused}
use Rattle.questions.specs.declared.Counts.{Counts}
use Rattle.questions.specs.Reading.{form}

-- The m haul records of farm p on a sheet of m yards; the empty stretch where m is above 32, p is 128 or above, or the sheet
-- does not reach so far.
unfoldable pub stretch : List ℕ → ℕ → ℕ → List ℕ
stretch s m p =
    cond (leb m most_yards && (ltb p most_farms && leb (8 * (m + p * m) + 8 * m) (length s))) (take (8 * m) (drop (8 * (m + p * m)) s)) []

abbrev pub stretch_by : Answer Counts → List ℕ → ℕ → List ℕ
stretch_by (accepted c) s p = cond (ltb p c.farms) (stretch s c.yards p) []
stretch_by (refused k) s p = []

-- A farm's hauls, as that stretch of the caller's sheet: "a caller who names a farm n or above, or a sheet that questions 1 to 4
-- turn down, gets the empty stretch".
unfoldable pub farm_hauls : List ℕ → ℕ → List ℕ
farm_hauls s p = stretch_by (form s) s p

-- Where in the sheet a farm's hauls begin, for a caller in C: behind the yards and the farms before it; 0 where there are none.
abbrev pub from_by : Answer Counts → ℕ → ℕ
from_by (accepted c) p = cond (ltb p c.farms) (8 * (c.yards + p * c.yards)) 0
from_by (refused k) p = 0

unfoldable pub farm_from : List ℕ → ℕ → ℕ
farm_from s p = from_by (form s) p

-- what holds of that place: from it on as many bytes as the stretch has lie within the sheet, and they are the farm's hauls
abbrev pub HaulsFrom : List ℕ → ℕ → ℕ → Type 0
HaulsFrom s p from = (from + length (farm_hauls s p) ≤ length s) × (take (length (farm_hauls s p)) (drop from s) ≡ farm_hauls s p)
