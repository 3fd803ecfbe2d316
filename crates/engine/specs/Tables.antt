-- The engine's own tables, into which it copies those that it takes (crate `tables`), for private functions alone.
use Rattle.std.specs.Prelude.{ℕ, ◌≤◌, ◌<◌, ◌≡◌, List, length, get_or}
use Rattle.tables.specs.Bounds.{most_facilities, most_entry, most_opening}
use Rattle.engine.specs.Bounds.{no_opening, kept_length, service_length}

-- Opening costs in a table of 32 places. A place that is no facility may hold more than a facility costs, so that it never looks cheap.
pub record Openings (m : ℕ) (opening : List ℕ) : Type 0 where
  pub room : most_facilities ≤ length opening
  pub small : (i : ℕ) → i < m → get_or opening i 0 ≤ most_opening
  pub high : (i : ℕ) → i < most_facilities → get_or opening i 0 ≤ no_opening

-- the front of a table holds what another one does
abbrev pub Copied : ℕ → List ℕ → List ℕ → Type 0
Copied count from table = (k : ℕ) → k < count → get_or table k 0 ≡ get_or from k 0

-- behind the first so many places a table is as it was
abbrev pub Behind : ℕ → List ℕ → List ℕ → Type 0
Behind count before after = (k : ℕ) → count ≤ k → get_or after k 0 ≡ get_or before k 0

-- the first so many places of a table hold one number
abbrev pub Front : ℕ → ℕ → List ℕ → Type 0
Front count x table = (k : ℕ) → k < count → get_or table k 0 ≡ x

-- the engine's own tables before anything is copied into them: room enough, places that are no facility never look cheap, and nothing is kept yet
pub record Blank (opening service kept : List ℕ) : Type 0 where
  pub opening_room : most_facilities ≤ length opening
  pub opening_high : (k : ℕ) → get_or opening k 0 ≤ no_opening
  pub service_room : service_length ≤ length service
  pub service_low : (k : ℕ) → get_or service k 0 ≤ most_entry
  pub kept_room : kept_length ≤ length kept
  pub kept_zero : (k : ℕ) → k < kept_length → get_or kept k 0 ≡ 0
