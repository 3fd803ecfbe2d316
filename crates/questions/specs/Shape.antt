-- What functions require that read a sheet as one of m yards and n farms: so many records lie within it, and the counts are
-- within their bounds.
use Rattle.std.specs.Prelude.{ℕ, ◌+◌, ◌*◌, ◌≤◌, List, length}
use Rattle.questions.specs.Bounds.{most_yards, most_farms}

pub record Shape (s : List ℕ) (m n : ℕ) : Type 0 where
  pub room : 8 * (m + n * m) ≤ length s
  pub some_yards : 1 ≤ m
  pub few_yards : m ≤ most_yards
  pub few_farms : n ≤ most_farms
