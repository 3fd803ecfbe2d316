-- The moves out of a set, each at its price against the best so far, for private functions alone. `costs` has what each add costs, `kept` what the
-- clients of a facility pay more where it goes (Sums).
use Rattle.std.specs.Prelude.{ℕ, ◌+◌, ◌-◌, ◌*◌, ◌≤◌, ◌<◌, ◌≡◌, true, false, cond, List, ltb, length, get_or}
use Rattle.model.specs.Loops.{sum}
use Rattle.model.specs.Passing.{through}
use Rattle.model.specs.Sets.{count, member, with, without}
use Rattle.model.specs.Neighbours.{swaps, add_drop_swap}
use Rattle.sets.specs.Within.{with32}
use Rattle.tables.specs.Bounds.{most_facilities, most_opening}
use Rattle.tables.specs.Tables.{table_cost}
use Rattle.engine.specs.Bounds.{most_served, most_added, most_cost, added_from, loss_from, more_from, kept_length}
use Rattle.engine.specs.Rows.{Row}
use Rattle.engine.specs.declared.moves.Priced.{Priced}
use Rattle.engine.specs.declared.Neighbourhood.{Neighbourhood}
use Rattle.engine.specs.declared.Neighbourhood.TheVariants.{AddDropSwap, Swap}

-- a set with its cost
unfoldable pub priced : (ℕ → ℕ) → ℕ → Priced
priced cost set = record { set = set; cost = cost set }

-- the moves of each kind: adds, drops and swaps, or swaps alone
unfoldable pub neighbours_by : Neighbourhood → ℕ → ℕ → List ℕ
neighbours_by AddDropSwap m set = add_drop_swap m set
neighbours_by Swap m set = swaps m set

-- x at its cost where that is below b's, else b
unfoldable pub cheaper : ℕ → ℕ → Priced → Priced
cheaper x cost b = cond (ltb cost b.cost) (record { set = x; cost = cost }) b

-- what is done with the number at place t of a list
abbrev pub at_place : {A : Type 0} → List ℕ → (ℕ → A → A) → ℕ → A → A
at_place list f t b = f (get_or list t 0) b

-- `from` with i at this cost, where i is not in the set
unfoldable pub try_add : ℕ → ℕ → ℕ → ℕ → Priced → Priced
try_add set from i cost b = cond (member set i) b (cheaper (with32 from i) cost b)

-- ---- adds

-- i at the cost that the table has for it
unfoldable pub add_at_cost : ℕ → List ℕ → ℕ → Priced → Priced
add_at_cost set costs i b = try_add set set i (get_or costs i 0) b

-- every add of a number below m
unfoldable pub best_add : ℕ → ℕ → List ℕ → Priced → Priced
best_add m set costs start = through m (add_at_cost set costs) start

-- ---- drops

-- the set without o, at the cost now and its loss, less what is saved of opening costs
unfoldable pub try_drop : List ℕ → ℕ → ℕ → List ℕ → ℕ → Priced → Priced
try_drop opening set cost kept o b = cheaper (without set o) (cost + get_or kept (loss_from + o) 0 - get_or opening o 0) b

-- every drop of a listed facility, where two or more are listed
unfoldable pub best_drop : List ℕ → ℕ → ℕ → List ℕ → List ℕ → Priced → Priced
best_drop opening set cost kept list start =
    cond (ltb (length list) 2) start (through (length list) (at_place list (try_drop opening set cost kept)) start)

-- ---- swaps

-- i for o, at the add's cost and what the clients of o pay more, less what is saved of opening costs
unfoldable pub swap_at_cost : ℕ → List ℕ → List ℕ → ℕ → ℕ → ℕ → Priced → Priced
swap_at_cost set costs kept o saved i b = try_add set (without set o) i (get_or kept (more_from + most_facilities * o + i) 0 + get_or costs i 0 - saved) b

-- every swap of o for a number below m
unfoldable pub best_swap_out : ℕ → ℕ → List ℕ → List ℕ → ℕ → ℕ → Priced → Priced
best_swap_out m set costs kept o saved start = through m (swap_at_cost set costs kept o saved) start

-- what is saved is the opening cost of o
unfoldable pub swap_out : List ℕ → ℕ → ℕ → List ℕ → List ℕ → ℕ → Priced → Priced
swap_out opening m set costs kept o b = best_swap_out m set costs kept o (get_or opening o 0) b

-- every swap of a listed facility
unfoldable pub best_swap : List ℕ → ℕ → ℕ → List ℕ → List ℕ → List ℕ → Priced → Priced
best_swap opening m set costs kept list start = through (length list) (at_place list (swap_out opening m set costs kept)) start

-- ---- the moves of each kind

-- the adds, the drops, the swaps, each from where the last ended; or the swaps alone
unfoldable pub best_move : Neighbourhood → List ℕ → ℕ → List ℕ → List ℕ → List ℕ → Priced → Priced
best_move AddDropSwap opening m costs kept list b =
    best_swap opening m b.set costs kept list (best_drop opening b.set b.cost kept list (best_add m b.set costs b))
best_move Swap opening m costs kept list b = best_swap opening m b.set costs kept list b

-- ---- what the functions require

-- the listed facilities have places in the table of opening costs, and each costs at most so much
pub record ListedWithin (opening list : List ℕ) (most : ℕ) : Type 0 where
  pub opening_room : most_facilities ≤ length opening
  pub few : length list ≤ most_facilities
  pub below : (t : ℕ) → t < length list → get_or list t 0 < most_facilities
  pub small : (t : ℕ) → t < length list → get_or opening (get_or list t 0) 0 ≤ most

-- what the clients of each facility pay more where it goes
pub record Losses (kept : List ℕ) : Type 0 where
  pub room : more_from ≤ length kept
  pub small : (o : ℕ) → o < most_facilities → get_or kept (loss_from + o) 0 ≤ most_served

-- what opening the listed facilities costs
unfoldable pub listed_openings : List ℕ → List ℕ → ℕ
listed_openings opening list = sum (length list) (λ t. get_or opening (get_or list t 0) 0)

-- the row of swaps that o goes out by: every price is at least what is saved
pub record SwapRow (m : ℕ) (costs kept : List ℕ) (o saved : ℕ) : Type 0 where
  pub few : m ≤ most_facilities
  pub below : o < most_facilities
  pub small : saved ≤ most_opening
  pub row : Row kept (more_from + most_facilities * o) costs
  pub enough : (i : ℕ) → i < most_facilities → saved ≤ get_or costs i 0

-- the rows of all listed facilities
pub record SwapRows (opening : List ℕ) (m : ℕ) (costs kept list : List ℕ) : Type 0 where
  pub opening_room : most_facilities ≤ length opening
  pub rows : (t : ℕ) → t < length list → SwapRow m costs kept (get_or list t 0) (get_or opening (get_or list t 0) 0)

-- ---- the price of every move

-- Every move out of the set is priced: an add by its cost, a drop by the cost now, its loss and what is saved of opening costs, a swap
-- by the add, what the clients of the one going out pay more, and the same saving.
pub record MovePrices (m n : ℕ) (opening service : List ℕ) (set : ℕ) (costs kept : List ℕ) : Type 0 where
  pub few_facilities : m ≤ most_facilities
  pub opening_room : most_facilities ≤ length opening
  pub costs_room : most_facilities ≤ length costs
  pub kept_room : kept_length ≤ length kept
  pub opening_small : (i : ℕ) → i < m → get_or opening i 0 ≤ most_opening
  pub costs_small : (i : ℕ) → i < most_facilities → get_or costs i 0 ≤ most_added
  pub kept_small : (k : ℕ) → added_from ≤ k → k < kept_length → get_or kept k 0 ≤ most_served
  pub cost_small : table_cost m n opening service set ≤ most_cost
  pub add : (i : ℕ) → i < m → member set i ≡ false → get_or costs i 0 ≡ table_cost m n opening service (with set i)
  pub drop : (o : ℕ) → o < m → member set o ≡ true → 2 ≤ count m (member set)
      → table_cost m n opening service set + get_or kept (loss_from + o) 0 ≡ table_cost m n opening service (without set o) + get_or opening o 0
  pub swap : (o i : ℕ) → o < m → member set o ≡ true → i < m → member set i ≡ false
      → get_or kept (more_from + most_facilities * o + i) 0 + get_or costs i 0 ≡ table_cost m n opening service (with (without set o) i) + get_or opening o 0
