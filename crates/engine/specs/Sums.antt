-- What a search keeps from move to move, for private functions alone: each client's two nearest facilities of the set, and sums over
-- the clients by which every move is priced with a few additions. All of it stands in one table (Bounds).
use Rattle.std.specs.Prelude.{ℕ, ◌+◌, ◌-◌, ◌*◌, ◌/◌, ◌%◌, ◌^◌, ◌≤◌, ◌<◌, min, ◌≡◌, true, List, eqb, length, get_or}
use Rattle.model.specs.Loops.{on, sum}
use Rattle.model.specs.Least.{any}
use Rattle.model.specs.Sets.{member}
use Rattle.model.specs.Instance.{opening_cost}
use Rattle.tables.specs.Bounds.{most_facilities, most_clients}
use Rattle.tables.specs.Tables.{tabled}
use Rattle.engine.specs.Bounds.{no_facility, seconds_from, added_from, loss_from, more_from, kept_length}
use Rattle.engine.specs.Tables.{Openings, Copied}
use Rattle.engine.specs.Rows.{entry, Rows, ColumnSums}
use Rattle.engine.specs.Near.{near_two}

abbrev pub first_at : List ℕ → ℕ → ℕ
first_at kept j = get_or kept j 0

abbrev pub second_at : List ℕ → ℕ → ℕ
second_at kept j = get_or kept (seconds_from + j) 0

-- nothing is above what stands for a missing facility
abbrev pub FirstsWithin : List ℕ → Type 0
FirstsWithin firsts = (j : ℕ) → j < length firsts → get_or firsts j 0 ≤ no_facility

-- ---- sums over the clients

-- the service cost with facility i added
unfoldable pub added_sum : ℕ → ℕ → List ℕ → List ℕ → ℕ → ℕ
added_sum m n service kept i = sum n (λ j. min (entry m service j i) (first_at kept j / most_facilities))

-- what the clients of facility o pay more where i comes for it, than where i comes and o stays
unfoldable pub more_sum : ℕ → ℕ → List ℕ → List ℕ → ℕ → ℕ → ℕ
more_sum m n service kept o i =
    sum n (λ j. on (eqb (first_at kept j % most_facilities) o)
    (min (entry m service j i) (second_at kept j / most_facilities) - min (entry m service j i) (first_at kept j / most_facilities)))

-- what the clients of facility o pay more where it goes
unfoldable pub loss_sum : ℕ → List ℕ → ℕ → ℕ
loss_sum n kept o = sum n (λ j. on (eqb (first_at kept j % most_facilities) o) (second_at kept j / most_facilities - first_at kept j / most_facilities))

-- the table holds these sums, whatever facilities stand for a client's two nearest
pub record Kept (m n : ℕ) (service kept : List ℕ) : Type 0 where
  pub rows : Rows m n service
  pub room : kept_length ≤ length kept
  pub ordered : (j : ℕ) → j < n → first_at kept j ≤ second_at kept j
  pub within : (j : ℕ) → j < n → second_at kept j ≤ no_facility
  pub added_is : (i : ℕ) → i < most_facilities → get_or kept (added_from + i) 0 ≡ added_sum m n service kept i
  pub loss_is : (o : ℕ) → o < most_facilities → get_or kept (loss_from + o) 0 ≡ loss_sum n kept o
  pub more_is : (o i : ℕ) → o < most_facilities → i < most_facilities → get_or kept (more_from + most_facilities * o + i) 0 ≡ more_sum m n service kept o i

-- ---- where the search stands between two moves

-- client j's two places hold its two nearest facilities of the set
pub record NearAt (m : ℕ) (service kept : List ℕ) (set j : ℕ) : Type 0 where
  pub first : first_at kept j ≡ (near_two m service set j).first
  pub second : second_at kept j ≡ (near_two m service set j).second

-- the table is that of the set, which has a facility
pub record KeptOf (m n : ℕ) (service : List ℕ) (set : ℕ) (kept : List ℕ) : Type 0 where
  pub sums : Kept m n service kept
  pub near : (j : ℕ) → j < n → NearAt m service kept set j
  pub below : set < 2 ^ m
  pub some : any m (member set) ≡ true

-- what the set costs with each facility added
abbrev pub Costs : ℕ → ℕ → List ℕ → List ℕ → ℕ → List ℕ → List ℕ → Type 0
Costs m n opening service set kept costs =
    (i : ℕ) → i < most_facilities → get_or costs i 0 ≡ opening_cost (tabled m n opening service) (member set) + get_or opening i 0 + get_or kept (added_from + i) 0

-- ---- from set to set, client by client

-- the clients below j stand by one set, those from j on by another
pub record NearFrom (m n : ℕ) (service kept : List ℕ) (set next j : ℕ) : Type 0 where
  pub moved : (k : ℕ) → k < j → NearAt m service kept next k
  pub waiting : (k : ℕ) → j ≤ k → k < n → NearAt m service kept set k

-- client j is not counted: what stands for a missing facility is both its nearest
pub record Uncounted (kept : List ℕ) (j : ℕ) : Type 0 where
  pub first : first_at kept j ≡ no_facility
  pub second : second_at kept j ≡ no_facility

-- the clients below j stand by a set, those from j on are not counted
pub record NearUpTo (m n : ℕ) (service kept : List ℕ) (set j : ℕ) : Type 0 where
  pub begun : (k : ℕ) → k < j → NearAt m service kept set k
  pub waiting : (k : ℕ) → j ≤ k → k < n → Uncounted kept k

-- the two places of every other client are as they were
pub record Others (j : ℕ) (before after : List ℕ) : Type 0 where
  pub firsts : (k : ℕ) → k < most_clients → ¬ (k ≡ j) → first_at after k ≡ first_at before k
  pub seconds : (k : ℕ) → k < most_clients → ¬ (k ≡ j) → second_at after k ≡ second_at before k

-- client j's two places hold these two, and those of the others are as they were
pub record PutAt (j first second : ℕ) (before after : List ℕ) : Type 0 where
  pub first_is : first_at after j ≡ first
  pub second_is : second_at after j ≡ second
  pub others : Others j before after

-- the tables that are lent are copied, the sums are those of the columns, and no client is counted
pub record Prepared (m n : ℕ) (opening service openings rows kept : List ℕ) : Type 0 where
  pub openings_good : Openings m openings
  pub openings_are : Copied m opening openings
  pub rows_are : Copied (n * m) service rows
  pub sums : Kept m n rows kept
  pub columns : ColumnSums m n rows kept
  pub waiting : (j : ℕ) → j < n → Uncounted kept j
