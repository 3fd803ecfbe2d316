-- Laws of the next set, where the kept table is that of a set: the functions that go through the moves are lent what they require, and what they
-- take is the model's next set.
use Prim.Native.Nat.{ℕ, ◌+◌, ◌*◌, ◌≤◌, ◌<◌}
use native.Mathlib.Omega.{arith}
use mathlib.Core.Path.{◌≡◌, ◌∙◌}
use mathlib.Core.Bool.{true}
use mathlib.Core.List.{List}
use lib.ListN.{length, get_or}
use Rattle.model.specs.Loops.{on}
use Rattle.model.specs.Sets.{member}
use Rattle.model.specs.Instance.{opening_cost, total_cost}
use Rattle.model.specs.Search.{next}
use Rattle.model.specs.Plans.{open_cost}
use Rattle.model.proofs.SumLaws.{sum_term}
use Rattle.tables.specs.Bounds.{most_opening}
use Rattle.tables.specs.Tables.{tabled, table_cost}
use Rattle.engine.specs.Bounds.{most_cost, loss_from, more_from}
use Rattle.engine.specs.Tables.{Openings}
use Rattle.engine.specs.Rows.{Added}
use Rattle.engine.specs.Near.{Listed}
use Rattle.engine.specs.Sums.{KeptOf}
use Rattle.engine.specs.Moves.{MovePrices, best_move, ListedWithin, Losses, listed_openings, SwapRow, SwapRows, priced, neighbours_by}
use Rattle.engine.specs.declared.moves.Priced.{Priced}
use Rattle.engine.specs.declared.Neighbourhood.{Neighbourhood}
use Rattle.engine.proofs.MovePriceLaws.{prices}
use Rattle.engine.proofs.ListedLaws.{places_few, place_below, place_in, sum_listed}
use Rattle.engine.proofs.MoveLaws.{cost_of}
use Rattle.engine.proofs.BestMoveLaws.{moves_are}

-- the opening cost of a facility of the set is part of the set's
opening_part : (m n : ℕ) (opening service : List ℕ) (set o : ℕ) → o < m → member set o ≡ true
    → get_or opening o 0 ≤ opening_cost (tabled m n opening service) (member set)
unfolding opening_cost tabled
opening_part m n opening service set o l e =
    let t = sum_term m (λ i. on (member set i) (get_or opening i 0)) o l in rw e at t

-- and that is part of its cost
cost_part : (m n : ℕ) (opening service : List ℕ) (set : ℕ)
    → opening_cost (tabled m n opening service) (member set) ≤ table_cost m n opening service set
unfolding table_cost open_cost total_cost
cost_part m n opening service set = omega arith

module _ (m n : ℕ) (opening service : List ℕ) (b : Priced) (kept : List ℕ)
    (here : KeptOf m n service b.set kept) (opened : Openings m opening)
    (list : List ℕ) (listed : Listed b.set list) where
  abbrev few : m ≤ 32
  few = here.sums.rows.few_facilities

  facility : (t : ℕ) → t < length list → get_or list t 0 < m
  facility = place_below b.set m list listed few here.below

  is_in_lem : (t : ℕ) → t < length list → member b.set (get_or list t 0) ≡ true
  is_in_lem = place_in b.set m list listed few here.below

  within_by : (most : ℕ) → ((t : ℕ) → t < length list → get_or opening (get_or list t 0) 0 ≤ most) → ListedWithin opening list most
  within_by most h =
      record {
        opening_room = opened.room;
        few = omega (arith, few, places_few b.set m list listed few here.below);
        below = λ t l. omega (arith, few, facility t l);
        small = h;
      }

  pub listed_within : ListedWithin opening list most_opening
  listed_within = within_by most_opening (λ t l. opened.small (get_or list t 0) (facility t l))

  -- what opening the listed ones costs is what opening the set costs
  pub openings_are : (k : ℕ) → k ≡ listed_openings opening list → k ≡ opening_cost (tabled m n opening service) (member b.set)
  unfolding listed_openings opening_cost tabled
  openings_are k e = e ∙ sum_listed b.set m list listed few here.below (λ o. get_or opening o 0)

  module _ (costs : List ℕ) (k : ℕ) (k_is : k ≡ listed_openings opening list) (added : Added 32 k opening kept costs)
      (costs_room : 32 ≤ length costs) (right : b ≡ priced (table_cost m n opening service) b.set) where
    given : MovePrices m n opening service b.set costs kept
    given = prices m n opening service b.set kept here k costs opened (openings_are k k_is) added costs_room

    -- the opening cost of a listed one is part of those of the set
    part : (t : ℕ) → t < length list → get_or opening (get_or list t 0) 0 ≤ k
    part t l = rw (openings_are k k_is) (opening_part m n opening service b.set (get_or list t 0) (facility t l) (is_in_lem t l))

    cost_is : b.cost ≡ table_cost m n opening service b.set
    cost_is = cost_of (table_cost m n opening service) b b.set right

    swap_row : (t : ℕ) → t < length list → SwapRow m costs kept (get_or list t 0) (get_or opening (get_or list t 0) 0)
    swap_row t l =
        record {
          few = few;
          below = omega (arith, few, facility t l);
          small = opened.small (get_or list t 0) (facility t l);
          row = record {
            more_room = omega (arith, few, facility t l, here.sums.room);
            costs_room = costs_room;
            more_small = λ i s. given.kept_small (more_from + 32 * get_or list t 0 + i) (omega arith) (omega (arith, few, facility t l));
            costs_small = given.costs_small;
          };
          enough = λ i s. omega (arith, part t l, added i s);
        }

    pub moves_lent :
        ListedWithin opening list b.cost × Losses kept × (b.cost ≤ most_cost) × (m ≤ length costs)
        × SwapRows opening m costs kept list
    moves_lent = (
      within_by b.cost (λ t l. omega (arith, part t l, openings_are k k_is, cost_part m n opening service b.set, cost_is)),
      record { room = omega (arith, here.sums.room); small = λ o l. given.kept_small (loss_from + o) (omega arith) (omega arith) },
      omega (arith, cost_is, given.cost_small),
      omega (arith, few),
      record { opening_room = opened.room; rows = swap_row },
    )

    -- what is taken is the set that the model goes to
    pub chosen : (moves : Neighbourhood) (r : Priced) → r ≡ best_move moves opening m costs kept list b
        → r ≡ priced (table_cost m n opening service) (next (table_cost m n opening service) (neighbours_by moves m) b.set)
    chosen moves r e = e ∙ moves_are m n opening service b costs kept given list listed here.below right moves
