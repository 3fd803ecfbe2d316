-- A client's two nearest facilities of a set, and from one set to the next, for private functions alone.
use Rattle.std.specs.Prelude.{ℕ, ◌%◌, ◌^◌, ◌≤◌, ◌<◌, ◌≡◌, Bool, true, false, cond, not, ◌&&◌, ◌||◌, List, eqb, ltb}
use Rattle.model.specs.Loops.{leading}
use Rattle.model.specs.Sets.{member, plus, minus}
use Rattle.model.specs.TwoLeast.{Two, two, two_least, packed}
use Rattle.sets.specs.Members.{rising_below}
use Rattle.tables.specs.Bounds.{most_facilities}
use Rattle.engine.specs.Bounds.{no_facility}
use Rattle.engine.specs.Rows.{entry}
use Rattle.engine.specs.declared.near.Near.{Near}

-- ---- among those of a set

-- Client j's two nearest facilities of a set, each with its cost in one number.
unfoldable pub near_two : ℕ → List ℕ → ℕ → ℕ → Two
near_two m service set j = two_least no_facility m (member set) (packed (entry m service j))

-- the code's pair, and the model's
abbrev pub two_of : Near → Two
two_of near = two near.first near.second

abbrev pub near_of : Two → Near
near_of t = record { first = t.first; second = t.second }

-- the pair has an order, and nothing is above what stands for a missing facility
pub record InOrder (near : Near) : Type 0 where
  pub ordered : near.first ≤ near.second
  pub within : near.second ≤ no_facility

-- the facilities of a set, listed
abbrev pub Listed : ℕ → List ℕ → Type 0
Listed set list = list ≡ rising_below most_facilities set

-- ---- from one set to the next

-- i is in the one set and not in the other
unfoldable pub new_at : ℕ → ℕ → ℕ → Bool
new_at before after i = member after i && not (member before i)

-- the least number that a set has new; 32 where there is none
unfoldable pub new_in : ℕ → ℕ → ℕ
new_in before after = leading most_facilities (λ i. not (new_at before after i))

-- `next` is `set` with `came` and without `went`, where those are facilities
pub record Moved (m set next came went : ℕ) : Type 0 where
  pub after : (k : ℕ) → k < m → member next k ≡ minus (plus (member set) came) went k
  pub comes : came < m → member set came ≡ false
  pub goes : went < m → member set went ≡ true

-- what the facility that came is to client j: what stands for a missing one, where none came
unfoldable pub arrival_at : ℕ → List ℕ → ℕ → ℕ → ℕ
arrival_at m service came j = cond (ltb came m) (packed (entry m service j) came) no_facility

-- one of the two is facility o
unfoldable pub goes_to : Near → ℕ → Bool
goes_to near o = eqb (near.first % most_facilities) o || eqb (near.second % most_facilities) o

-- Client j has these two nearest facilities of the set. The move leads to `next`, whose facilities are listed; `arrived` is what the
-- facility that came is to the client.
pub record Moving (m n : ℕ) (service : List ℕ) (j set next : ℕ) (near : Near) (came went arrived : ℕ) (list : List ℕ) : Type 0 where
  pub client : j < n
  pub next_small : next < 2 ^ m
  pub moved : Moved m set next came went
  pub near_is : near ≡ near_of (near_two m service set j)
  pub arrived_is : arrived ≡ arrival_at m service came j
  pub listed : Listed next list
