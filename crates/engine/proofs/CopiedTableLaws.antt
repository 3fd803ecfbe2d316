-- Laws of the engine's own tables: one with its front put anew, that prepared they are good copies of those that are lent, and that what a search on the copies
-- reaches is what one on the tables does.
use Prim.Native.Nat.{ℕ, ◌+◌, ◌-◌, ◌*◌, ◌≤◌, ◌<◌}
use native.Mathlib.Decide.{dec_lt}
use native.Mathlib.Omega.{arith}
use mathlib.Core.Path.{◌≡◌, refl, ap, ap₂, fun_ext, ◌∙◌}
use mathlib.Core.List.{List, ◌++◌}
use lib.ListN.{length, get_or, take, drop, replicate, length-append, length-replicate, get_or-append, get_or-replicate}
use lib.Seq.{get_or-take, length-take-le}
use Rattle.std.proofs.lemmas.List.{length-drop, get_or-drop, get_or-append_right}
use Rattle.model.specs.Sets.{member}
use Rattle.model.specs.Instance.{total_cost}
use Rattle.model.specs.Plans.{open_cost}
use Rattle.model.specs.Limit.{search_within}
use Rattle.model.proofs.PlaceLaws.{same_most, row_within, few_places}
use Rattle.model.proofs.CostLaws.{same_service, same_opening}
use Rattle.model.proofs.PlanLaws.{same_start}
use Rattle.tables.specs.Bounds.{most_entry, most_opening}
use Rattle.tables.specs.Tables.{tabled, table_cost}
use Rattle.tables.proofs.LentTableLaws.{Good}
use Rattle.engine.specs.Bounds.{no_opening, no_facility, seconds_from, added_from, kept_length, service_length}
use Rattle.engine.specs.Tables.{Openings, Copied, Behind, Front, Blank}
use Rattle.engine.specs.Rows.{Rows, NoSums, ColumnSums, Aside}
use Rattle.engine.specs.Sums.{Prepared}
use Rattle.engine.specs.Moves.{neighbours_by}
use Rattle.engine.specs.SearchOnTables.{start_set, found}
use Rattle.engine.specs.declared.Start.{Start}
use Rattle.engine.specs.declared.Start.TheVariants.{Cheapest, Set}
use Rattle.engine.specs.declared.Found.{Found}
use Rattle.engine.specs.declared.Neighbourhood.{Neighbourhood}
use Rattle.engine.proofs.ClientSumLaws.{kept_start}

-- ---- the front of a table, put anew

module _ (count : ℕ) (front before : List ℕ) (size : length front ≡ count) where
  pub table_long : count ≤ length before → length (front ++ drop count before) ≡ length before
  table_long room = omega (arith, size, length-append front (drop count before), length-drop count before)

  pub table_behind : Behind count before (front ++ drop count before)
  table_behind k l =
      get_or-append_right front (drop count before) count k 0 size l ∙ get_or-drop count before (k - count) 0
      ∙ ap (λ (i : ℕ). get_or before i 0) (omega arith)

  -- so many places of another table
  pub table_copied : (from : List ℕ) → front ≡ take count from → Copied count from (front ++ drop count before)
  table_copied from is k l =
      get_or-append front (drop count before) 0 k (omega (arith, size))
      ∙ ap (λ (xs : List ℕ). get_or xs k 0) is ∙ get_or-take count from k 0 l

  -- one number
  pub table_filled : (x : ℕ) → front ≡ replicate count x → Front count x (front ++ drop count before)
  table_filled x is k l =
      get_or-append front (drop count before) 0 k (omega (arith, size))
      ∙ ap (λ (xs : List ℕ). get_or xs k 0) is ∙ get_or-replicate {A = ℕ} count k x 0 l

-- ---- before anything is copied

pub blank : Blank (replicate 32 no_opening) (replicate service_length 0) (replicate kept_length 0)
blank =
    record {
      opening_room = omega (arith, length-replicate {A = ℕ} 32 no_opening);
      opening_high = same_most 32 no_opening;
      service_room = omega (arith, length-replicate {A = ℕ} service_length 0);
      service_low = λ k. omega (arith, same_most service_length 0 k);
      kept_room = omega (arith, length-replicate {A = ℕ} kept_length 0);
      kept_zero = λ k l. get_or-replicate {A = ℕ} kept_length k 0 0 l;
    }

-- ---- the copies

-- the tables have room for what is copied
pub record Room (m n : ℕ) (opening service openings rows : List ℕ) : Type 0 where
  pub opening_long : m ≤ length opening
  pub openings_long : m ≤ length openings
  pub few : n * m ≤ 4096
  pub service_long : n * m ≤ length service
  pub rows_long : n * m ≤ length rows

pub room_of : (m n : ℕ) (opening service openings rows kept : List ℕ) → Good m n opening service → Blank openings rows kept
    → Room m n opening service openings rows
room_of m n opening service openings rows kept good blank =
    let few = few_places m n good.few_facilities good.few_clients in
    record {
      opening_long = good.opening_room;
      openings_long = omega (arith, good.few_facilities, blank.opening_room);
      few = omega (arith, few);
      service_long = good.service_room;
      rows_long = omega (arith, few, blank.service_room);
    }

module _ {m n : ℕ} {opening service : List ℕ} (good : Good m n opening service) where
  pub openings_of : (before openings : List ℕ) → 32 ≤ length openings → ((k : ℕ) → get_or before k 0 ≤ no_opening) → Copied m opening openings → Behind m before openings
      → Openings m openings
  openings_of before openings room high copied behind =
      let small : (i : ℕ) → i < m → get_or openings i 0 ≤ most_opening = λ i l. omega (arith, copied i l, good.openings i l) in
      record {
        room = room;
        small = small;
        high = λ i l. elim (dec_lt i m) [
          | yes b ↦ omega (arith, small i b)
          | no g ↦ omega (arith, behind i (omega arith), high i)
        ];
      }

  pub rows_of : (before rows : List ℕ) → service_length ≤ length rows → ((k : ℕ) → get_or before k 0 ≤ most_entry) → Copied (n * m) service rows
      → Behind (n * m) before rows → Rows m n rows
  rows_of before rows room low copied behind =
      record {
        few_facilities = good.few_facilities;
        few_clients = good.few_clients;
        room = omega (arith, few_places m n good.few_facilities good.few_clients);
        within = λ k. elim (dec_lt k (n * m)) [
          | yes l ↦ omega (arith, copied k l, good.entries k l)
          | no g ↦ omega (arith, behind k (omega arith), low k)
        ];
      }

-- tables that agree are of one cost
pub same_cost : (m n : ℕ) (opening service openings rows : List ℕ) → Copied m opening openings → Copied (n * m) service rows
    → table_cost m n openings rows ≡ table_cost m n opening service
unfolding table_cost open_cost total_cost tabled
same_cost m n opening service openings rows a b =
    fun_ext (λ set. ap₂ ◌+◌
    (same_opening (tabled m n openings rows) (tabled m n opening service) (member set) refl refl a)
    (same_service (tabled m n openings rows) (tabled m n opening service) (member set) refl refl
    (λ i j facility client. ap (λ x. 1 * x) (b (j * m + i) (omega (arith, row_within m n j client))))))

-- ---- prepared tables, and a search on them

-- the tables are copied, and the front of the kept one is set
module _ (m n : ℕ) (opening service openings₀ rows₀ kept₀ : List ℕ) (good : Good m n opening service) (blank : Blank openings₀ rows₀ kept₀)
    (costs entries firsts : List ℕ) (costs_are : costs ≡ take m opening) (entries_are : entries ≡ take (n * m) service)
    (firsts_are : firsts ≡ replicate added_from no_facility) where
  abbrev openings : List ℕ
  openings = costs ++ drop m openings₀

  abbrev rows : List ℕ
  rows = entries ++ drop (n * m) rows₀

  abbrev front : List ℕ
  front = firsts ++ drop added_from kept₀

  abbrev room : Room m n opening service openings₀ rows₀
  room = room_of m n opening service openings₀ rows₀ kept₀ good blank

  costs_size : length costs ≡ m
  costs_size = ap length costs_are ∙ length-take-le m opening room.opening_long

  entries_size : length entries ≡ n * m
  entries_size = ap length entries_are ∙ length-take-le (n * m) service room.service_long

  firsts_size : length firsts ≡ added_from
  firsts_size = ap length firsts_are ∙ length-replicate {A = ℕ} added_from no_facility

  copied_rows : Copied (n * m) service rows
  copied_rows = table_copied (n * m) entries rows₀ entries_size service entries_are

  good_rows : Rows m n rows
  good_rows =
      rows_of good rows₀ rows (omega (arith, table_long (n * m) entries rows₀ entries_size room.rows_long, blank.service_room)) blank.service_low
      copied_rows (table_behind (n * m) entries rows₀ entries_size)

  -- so the sums of the columns can be added up
  pub ready : Rows m n rows × (kept_length ≤ length front) × NoSums front
  ready = (
    good_rows,
    omega (arith, table_long added_from firsts kept₀ firsts_size (omega (arith, blank.kept_room)), blank.kept_room),
    λ i l. table_behind added_from firsts kept₀ firsts_size (added_from + i) (omega arith) ∙ blank.kept_zero (added_from + i) (omega arith),
  )

  -- and when they are, all are prepared
  pub prepared : (kept : List ℕ) → length kept ≡ length front → Aside front kept → ColumnSums m n rows kept
      → Prepared m n opening service openings rows kept
  prepared kept same_length aside columns =
      let copied = table_copied m costs openings₀ costs_size opening costs_are in
      let farthest : (k : ℕ) → k < added_from → get_or kept k 0 ≡ no_facility =
      λ k l. aside.below k l ∙ table_filled added_from firsts kept₀ firsts_size no_facility firsts_are k l in
      record {
        openings_good =
            openings_of good openings₀ openings (omega (arith, table_long m costs openings₀ costs_size room.openings_long, blank.opening_room))
            blank.opening_high copied (table_behind m costs openings₀ costs_size);
        openings_are = copied;
        rows_are = copied_rows;
        sums =
            kept_start m n rows kept good_rows (omega (arith, same_length, ready.1)) farthest columns
            (λ k l r. aside.above k l ∙ (table_behind added_from firsts kept₀ firsts_size k (omega arith) ∙ blank.kept_zero k r));
        columns = columns;
        waiting = λ j l. record {
          first = farthest j (omega (arith, good.few_clients));
          second = farthest (seconds_from + j) (omega (arith, good.few_clients));
        };
      }

module _ (m n : ℕ) (opening service : List ℕ) where
  module _ (openings rows kept : List ℕ) (done : Prepared m n opening service openings rows kept) where
    same : table_cost m n openings rows ≡ table_cost m n opening service
    same = same_cost m n opening service openings rows done.openings_are done.rows_are

    pub same_first : (start : Start) (first : ℕ) → first ≡ start_set start (tabled m n openings rows) → first ≡ start_set start (tabled m n opening service)
    unfolding start_set table_cost tabled
    same_first Cheapest first e =
        e ∙ same_start (tabled m n openings rows) (tabled m n opening service) refl (λ set. ap (λ (cost : ℕ → ℕ). cost set) same)
    same_first (Set set) first e = e

    pub same_found : (moves : Neighbourhood) (start : Start) (limit first : ℕ) (r : Found) → first ≡ start_set start (tabled m n openings rows)
        → r ≡ found (table_cost m n openings rows) (search_within (table_cost m n openings rows) (neighbours_by moves m) limit first)
        → r ≡ found (table_cost m n opening service)
        (search_within (table_cost m n opening service) (neighbours_by moves m) limit (start_set start (tabled m n opening service)))
    same_found moves start limit first r begins is =
        is ∙ ap (λ (cost : ℕ → ℕ). found cost (search_within cost (neighbours_by moves m) limit first)) same
        ∙ ap (λ (x : ℕ). found (table_cost m n opening service) (search_within (table_cost m n opening service) (neighbours_by moves m) limit x))
        (same_first start first begins)
