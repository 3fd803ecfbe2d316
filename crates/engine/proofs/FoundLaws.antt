-- What the answer of a search says: where it begins, and that a limit which no search reaches is none.
use Prim.Native.Nat.{ℕ, suc, ◌^◌, ◌≤◌, ◌<◌}
use native.Mathlib.Omega.{arith}
use mathlib.Core.Path.{◌≡◌, ap}
use mathlib.Core.Bool.{Bool, true, false}
use mathlib.Core.List.{List}
use borrow.Author.Tests.{leb-true, ltb-true}
use lib.Dec.{leb}
use lib.Pow.{pow_mono}
use Rattle.model.specs.Least.{any}
use Rattle.model.specs.Sets.{member}
use Rattle.model.specs.Search.{Among, search}
use Rattle.model.proofs.Bools.{clash, and_left, and_right}
use Rattle.model.proofs.SetLaws.{some_member}
use Rattle.model.proofs.NeighbourLaws.{moves_keep, swaps_keep}
use Rattle.model.proofs.PlanLaws.{open_start_lem}
use Rattle.model.proofs.LimitLaws.{settled_search}
use Rattle.model.proofs.FewStepsLaws.{never_stopped}
use Rattle.tables.specs.Tables.{tabled, table_cost, good_tables}
use Rattle.tables.proofs.LentTableLaws.{good_when}
use Rattle.engine.specs.Bounds.{no_limit}
use Rattle.engine.specs.Moves.{neighbours_by}
use Rattle.std.specs.Prelude.{Option, Some, None}
use Rattle.engine.specs.SearchOnTables.{good_start, start_set, found, searching}
use Rattle.engine.specs.declared.Neighbourhood.{Neighbourhood}
use Rattle.engine.specs.declared.Neighbourhood.TheVariants.{AddDropSwap, Swap}
use Rattle.engine.specs.declared.Start.{Start}
use Rattle.engine.specs.declared.Start.TheVariants.{Cheapest, Set}
use Rattle.engine.specs.declared.Found.{Found}
use Rattle.engine.specs.declared.Found.TheVariants.{Stopped, Settled}

-- a good start is a set of facilities that has one
module _ (start : Start) (m n : ℕ) (opening service : List ℕ) (some : 1 ≤ m) (good : good_start m start ≡ true) where
  pub start_good : (start_set start (tabled m n opening service) < 2 ^ m) × (any m (member (start_set start (tabled m n opening service))) ≡ true)
  unfolding good_start start_set tabled
  start_good = by start good
    where
      by : (start : Start) → good_start m start ≡ true
          → (start_set start (tabled m n opening service) < 2 ^ m) × (any m (member (start_set start (tabled m n opening service))) ≡ true)
      by Cheapest h = open_start_lem (tabled m n opening service) some
      by (Set set) h =
          let small = ltb-true set (2 ^ m) (and_right (leb 1 set) _ h) in
          (small, some_member m set small (leb-true 1 set (and_left (leb 1 set) _ h)))

  pub begins_well : (first : ℕ) → first ≡ start_set start (tabled m n opening service) → (first < 2 ^ m) × (any m (member first) ≡ true)
  begins_well first e = rw e start_good

-- moves lead to sets of the same facilities
moves_below : (moves : Neighbourhood) (m set x : ℕ) → set < 2 ^ m → Among x (neighbours_by moves m set) → x < 2 ^ m
unfolding neighbours_by
moves_below AddDropSwap m set x small among = (moves_keep m set small x among).0
moves_below Swap m set x small among = (swaps_keep m set small x among).0

is_stopped : Option Found → Bool
is_stopped None = false
is_stopped (Some (Stopped set total made)) = true
is_stopped (Some (Settled set total made)) = false

-- with a limit of `no_limit` or more a search is never stopped: it settles where the search without a limit ends
module _ (moves : Neighbourhood) (start : Start) (limit : ℕ) (opening service : List ℕ) (m n : ℕ)
    (tables : good_tables m n opening service ≡ true) (begins : good_start m start ≡ true) where
  abbrev cost : ℕ → ℕ
  cost = table_cost m n opening service

  abbrev first : ℕ
  first = start_set start (tabled m n opening service)

  pub unbroken : no_limit ≤ limit
      → searching moves start limit opening service m n
      ≡ Some (Settled (search cost (neighbours_by moves m) first).set (cost (search cost (neighbours_by moves m) first).set)
      (search cost (neighbours_by moves m) first).steps)
  unfolding searching found
  unbroken high =
      let good = good_when m n opening service tables in
      let small = (start_good start m n opening service good.some_facility begins).0 in
      let enough : 2 ^ m ≤ suc limit = omega (arith, pow_mono good.few_facilities) in
      let settles = never_stopped cost (neighbours_by moves m) (2 ^ m) (moves_below moves m) limit first small enough in
      let is = settled_search cost (neighbours_by moves m) limit first settles in
      rw (tables, begins, settles, is.0, is.1)

  pub not_stopped : no_limit ≤ limit → (set total made : ℕ) → searching moves start limit opening service m n ≡ Some (Stopped set total made) → ⊥
  unfolding is_stopped
  not_stopped high set total made e = clash (ap is_stopped e) (ap is_stopped (unbroken high))
