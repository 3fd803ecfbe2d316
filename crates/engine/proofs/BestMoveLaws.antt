-- Laws of the best move: going through the moves by their prices is the model's search for the best of them.
-- Idea: each step takes the best of its list of moves (none or one), so the loops take the best of all in a row. A row of swaps with
-- no price below the best so far leaves it as it is.
use Prim.Native.Nat.{ℕ, ◌+◌, ◌-◌, ◌*◌, ◌/◌, ◌^◌, ◌≤◌, ◌<◌}
use native.Mathlib.Decide.{dec_lt}
use native.Mathlib.Omega.{arith}
use mathlib.Core.Path.{◌≡◌, sym, ap, ◌∙◌}
use mathlib.Core.Bool.{true, false}
use mathlib.Core.List.{List, ◌++◌}
use borrow.Author.Tests.{lt-ltb, le-ltb, lt-leb, le-leb, leb-true}
use lib.Dec.{leb, ltb}
use lib.ListN.{length, get_or}
use Rattle.model.specs.Loops.{on}
use Rattle.model.specs.Passing.{through}
use Rattle.model.specs.Sets.{count, member, with, without}
use Rattle.model.specs.Neighbours.{add_at, adds, drop_at, drops, swap_at, swaps_out, swaps, add_drop_swap}
use Rattle.model.specs.Search.{best, next}
use Rattle.model.proofs.Bools.{cases}
use Rattle.model.proofs.CountLaws.{count_missing}
use Rattle.model.proofs.PassingLaws.{through_more, through_keeps, through_holds}
use Rattle.sets.specs.Within.{with32}
use Rattle.sets.proofs.WithinLaws.{with32_below}
use Rattle.tables.specs.Tables.{table_cost}
use Rattle.engine.specs.Bounds.{most_cost, top_bit, loss_from, more_from}
use Rattle.engine.specs.Rows.{dear_at}
use Rattle.engine.specs.Near.{Listed}
use Rattle.engine.specs.Moves.{MovePrices, cheaper, at_place, try_add, add_at_cost, best_add, try_drop, best_drop, swap_at_cost, best_swap_out, swap_out, best_swap, best_move, priced, neighbours_by}
use Rattle.engine.specs.declared.moves.Priced.{Priced}
use Rattle.engine.specs.declared.Neighbourhood.{Neighbourhood}
use Rattle.engine.specs.declared.Neighbourhood.TheVariants.{AddDropSwap, Swap}
use Rattle.engine.proofs.ListedLaws.{in_set, places_count, through_listed}
use Rattle.engine.proofs.MoveLaws.{cost_of, cheaper_is_better, best_then, right_of, through_best}

-- ---- one move, as the code tests it

module _ (set from i k : ℕ) (b : Priced) where
  -- a price that is not lower
  pub add_dear : b.cost ≤ k → b ≡ try_add set from i k b
  unfolding try_add cheaper
  add_dear h = cases (member set i) (λ e. rw e) (λ e. rw (e, le-ltb k b.cost h))

  pub add_open : member set i ≡ true → b ≡ try_add set from i k b
  unfolding try_add
  add_open e = rw e

  pub add_taken : (x : ℕ) → k < b.cost → member set i ≡ false → x ≡ with32 from i → record { set = x; cost = k } ≡ try_add set from i k b
  unfolding try_add cheaper
  add_taken x l e h = rw (e, lt-ltb k b.cost l, h)

-- ---- the best so far never costs more than before

cheaper_falls : (x k top : ℕ) (b : Priced) → b.cost ≤ top → (cheaper x k b).cost ≤ top
unfolding cheaper
cheaper_falls x k top b low =
    elim (dec_lt k b.cost) [
      | yes l ↦ rw (lt-ltb k b.cost l) (omega arith)
      | no g ↦ rw (le-ltb k b.cost (omega arith)) low
    ]

add_falls : (m set : ℕ) (costs : List ℕ) (top : ℕ) (b : Priced) → b.cost ≤ top → (best_add m set costs b).cost ≤ top
unfolding best_add add_at_cost try_add
add_falls m set costs top b low =
    through_holds (λ x. x.cost ≤ top) (add_at_cost set costs) b m
    (λ i l x h. cases (member set i) (λ e. rw e h) (λ e. rw e (cheaper_falls (with32 set i) (get_or costs i 0) top x h))) low

drop_falls : (opening : List ℕ) (set cost : ℕ) (kept list : List ℕ) (top : ℕ) (b : Priced) → b.cost ≤ top
    → (best_drop opening set cost kept list b).cost ≤ top
unfolding best_drop try_drop
drop_falls opening set cost kept list top b low =
    cases (ltb (length list) 2) (λ e. rw e low)
    (λ e. rw e (through_holds (λ x. x.cost ≤ top) (at_place list (try_drop opening set cost kept)) b (length list)
    (λ t l x h. cheaper_falls _ _ top x h) low))

swap_falls : (m set : ℕ) (costs kept : List ℕ) (o saved top : ℕ) (b : Priced) → b.cost ≤ top
    → (best_swap_out m set costs kept o saved b).cost ≤ top
unfolding best_swap_out swap_at_cost try_add
swap_falls m set costs kept o saved top b low =
    through_holds (λ x. x.cost ≤ top) (swap_at_cost set costs kept o saved) b m
    (λ i l x h. cases (member set i) (λ e. rw e h) (λ e. rw e (cheaper_falls _ _ top x h))) low

pub out_falls : (m set : ℕ) (costs kept : List ℕ) (o saved top : ℕ) (b r : Priced) → b.cost ≤ top
    → r ≡ best_swap_out m set costs kept o saved b → r.cost ≤ top
out_falls m set costs kept o saved top b r low e = rw e (swap_falls m set costs kept o saved top b low)

pub both_fall : (opening : List ℕ) (m set cost : ℕ) (costs kept list : List ℕ) (b added dropped : Priced)
    → b.cost ≤ most_cost → added ≡ best_add m set costs b → dropped ≡ best_drop opening set cost kept list added
    → dropped.cost ≤ most_cost
both_fall opening m set cost costs kept list b added dropped low a d =
    rw d (drop_falls opening set cost kept list most_cost added (rw a (add_falls m set costs most_cost b low)))

-- ---- a row of swaps with no price below the best so far

-- where all prices of a row are not below the bound
all_dear : (more : List ℕ) (at : ℕ) (costs : List ℕ) (bound i : ℕ) → count 32 (dear_at more at costs bound) ≡ 32 → i < 32
    → bound ≤ get_or more (at + i) 0 + get_or costs i 0
unfolding dear_at
all_dear more at costs bound i all l =
    cases (dear_at more at costs bound i)
    (λ e. leb-true bound (get_or more (at + i) 0 + get_or costs i 0) e)
    (λ e. let fewer = count_missing 32 i (dear_at more at costs bound) l e in absurd (omega arith))

-- what a price and what the bound is short of the highest bit have of that bit
pub lifted : (price bound lift : ℕ) → price < top_bit → bound ≤ top_bit → lift ≡ top_bit - bound → (price + lift) / top_bit ≡ on (leb bound price) 1
lifted price bound lift small low is =
    elim (dec_lt price bound) [
      | yes l ↦ rw (lt-leb bound price l) (omega arith)
      | no g ↦ rw (le-leb bound price (omega arith)) (omega arith)
    ]

pub row_stays : (m set : ℕ) (costs kept : List ℕ) (o saved : ℕ) (b : Priced) → m ≤ 32
    → count 32 (dear_at kept (more_from + 32 * o) costs (b.cost + saved)) ≡ 32 → b ≡ best_swap_out m set costs kept o saved b
unfolding best_swap_out swap_at_cost
row_stays m set costs kept o saved b few all =
    sym (through_keeps (swap_at_cost set costs kept o saved) b m
    (λ i l. sym (add_dear set (without set o) i _ b (let h = all_dear kept (more_from + 32 * o) costs (b.cost + saved) i all (omega arith) in omega arith))))

-- ---- a turn of each loop, with what its calls answer

through_turn : (f : ℕ → Priced → Priced) (start b r : Priced) (i : ℕ) → b ≡ through i f start → r ≡ f i b → r ≡ through (i + 1) f start
through_turn f start b r i e h = h ∙ ap (f i) e ∙ sym (through_more f start i)

pub adds_more : (set : ℕ) (costs : List ℕ) (start b r : Priced) (i : ℕ) → b ≡ through i (add_at_cost set costs) start
    → r ≡ try_add set set i (get_or costs i 0) b → r ≡ through (i + 1) (add_at_cost set costs) start
unfolding add_at_cost
adds_more set costs start b r i e h = through_turn (add_at_cost set costs) start b r i e h

pub drops_more : (opening : List ℕ) (set cost : ℕ) (kept list : List ℕ) (start b r : Priced) (t x : ℕ)
    → b ≡ through t (at_place list (try_drop opening set cost kept)) start → x ≡ without set (get_or list t 0)
    → r ≡ cheaper x (cost + get_or kept (loss_from + get_or list t 0) 0 - get_or opening (get_or list t 0) 0) b
    → r ≡ through (t + 1) (at_place list (try_drop opening set cost kept)) start
unfolding try_drop
drops_more opening set cost kept list start b r t x e removed h =
    through_turn (at_place list (try_drop opening set cost kept)) start b r t e
    (h ∙ ap (λ (y : ℕ). cheaper y (cost + get_or kept (loss_from + get_or list t 0) 0 - get_or opening (get_or list t 0) 0) b) removed)

pub row_more : (set : ℕ) (costs kept : List ℕ) (o saved : ℕ) (start b r : Priced) (i x : ℕ)
    → b ≡ through i (swap_at_cost set costs kept o saved) start → x ≡ without set o
    → r ≡ try_add set x i (get_or kept (more_from + 32 * o + i) 0 + get_or costs i 0 - saved) b
    → r ≡ through (i + 1) (swap_at_cost set costs kept o saved) start
unfolding swap_at_cost
row_more set costs kept o saved start b r i x e removed h =
    through_turn (swap_at_cost set costs kept o saved) start b r i e
    (h ∙ ap (λ (y : ℕ). try_add set y i (get_or kept (more_from + 32 * o + i) 0 + get_or costs i 0 - saved) b) removed)

pub rows_more : (opening : List ℕ) (m set : ℕ) (costs kept list : List ℕ) (start b r : Priced) (t : ℕ)
    → b ≡ through t (at_place list (swap_out opening m set costs kept)) start
    → r ≡ best_swap_out m set costs kept (get_or list t 0) (get_or opening (get_or list t 0) 0) b
    → r ≡ through (t + 1) (at_place list (swap_out opening m set costs kept)) start
unfolding swap_out
rows_more opening m set costs kept list start b r t e h =
    through_turn (at_place list (swap_out opening m set costs kept)) start b r t e h

-- the loops in a row, for each kind of moves

module _ (moves : Neighbourhood) (opening : List ℕ) (m : ℕ) (costs kept list : List ℕ) (b : Priced) where
  pub taken_all : (added dropped r : Priced) → moves ≡ AddDropSwap → added ≡ best_add m b.set costs b
      → dropped ≡ best_drop opening b.set b.cost kept list added
      → r ≡ best_swap opening m b.set costs kept list dropped → r ≡ best_move moves opening m costs kept list b
  unfolding best_move
  taken_all added dropped r e a d s =
      rw e (s ∙ ap (best_swap opening m b.set costs kept list)
      (d ∙ ap (best_drop opening b.set b.cost kept list) a))

  pub taken_swap : (r : Priced) → moves ≡ Swap → r ≡ best_swap opening m b.set costs kept list b
      → r ≡ best_move moves opening m costs kept list b
  unfolding best_move
  taken_swap r e s = rw e s

-- ---- what the prices say

module _ (m n : ℕ) (opening service : List ℕ) (set : ℕ) (costs kept : List ℕ)
    (given : MovePrices m n opening service set costs kept)
    (list : List ℕ) (listed : Listed set list) (narrow : set < 2 ^ m) where
  abbrev cost : ℕ → ℕ
  cost = table_cost m n opening service

  abbrev Right : Priced → Type 0
  Right x = x ≡ priced cost x.set

  abbrev few : m ≤ 32
  few = given.few_facilities

  -- ---- each move is taken at the cost of its set

  add_is : (i : ℕ) → i < m → (x : Priced) → Right x → add_at_cost set costs i x ≡ priced cost (best cost x.set (add_at set i))
  unfolding add_at_cost try_add add_at best
  add_is i l x right =
      cases (member set i)
      (λ e. rw e right)
      (λ e. rw (e, with32_below set i (omega (arith, few))) (cheaper_is_better cost (with set i) x (get_or costs i 0) right (given.add i l e)))

  adds_are : (x : Priced) → Right x → best_add m set costs x ≡ priced cost (best cost x.set (adds m set))
  unfolding best_add adds
  adds_are x right = through_best cost (add_at_cost set costs) (add_at set) x right m add_is

  drop_is : 2 ≤ count m (member set) → (o : ℕ) → o < m → (x : Priced) → Right x
      → in_set set (try_drop opening set (cost set) kept) o x ≡ priced cost (best cost x.set (drop_at set o))
  unfolding try_drop drop_at best
  drop_is two o l x right =
      cases (member set o)
      (λ e. rw e (cheaper_is_better cost (without set o) x _ right (omega (arith, given.drop o l e two))))
      (λ e. rw e right)

  drops_are : (x : Priced) → Right x
      → best_drop opening set (cost set) kept list x ≡ priced cost (best cost x.set (drops m set))
  unfolding best_drop drops best
  drops_are x right =
      let as_many = places_count set m list listed few narrow in
      elim (dec_lt (length list) 2) [
        | yes l ↦ rw (lt-ltb (length list) 2 l, lt-leb 2 (count m (member set)) (omega arith)) right
        | no g ↦
            let two : 2 ≤ count m (member set) = omega arith in
            rw (le-ltb (length list) 2 (omega arith), le-leb 2 (count m (member set)) two)
            (through_listed set m list listed few narrow (try_drop opening set (cost set) kept) x
            ∙ through_best cost (in_set set (try_drop opening set (cost set) kept)) (drop_at set) x right m (drop_is two))
      ]

  swap_is : (o : ℕ) → o < m → member set o ≡ true → (i : ℕ) → i < m → (x : Priced) → Right x
      → swap_at_cost set costs kept o (get_or opening o 0) i x ≡ priced cost (best cost x.set (swap_at set o i))
  unfolding swap_at_cost try_add swap_at best
  swap_is o lo is_open i l x right =
      cases (member set i)
      (λ e. rw e right)
      (λ e. rw (e, with32_below (without set o) i (omega (arith, few)))
      (cheaper_is_better cost (with (without set o) i) x _ right (omega (arith, given.swap o i lo is_open l e))))

  swaps_out_are : (o : ℕ) → o < m → (x : Priced) → Right x
      → in_set set (swap_out opening m set costs kept) o x ≡ priced cost (best cost x.set (swaps_out m set o))
  unfolding swap_out best_swap_out swaps_out best
  swaps_out_are o l x right =
      cases (member set o)
      (λ e. rw e (through_best cost (swap_at_cost set costs kept o (get_or opening o 0)) (swap_at set o) x right m (swap_is o l e)))
      (λ e. rw e right)

  swaps_are : (x : Priced) → Right x
      → best_swap opening m set costs kept list x ≡ priced cost (best cost x.set (swaps m set))
  unfolding best_swap swaps
  swaps_are x right =
      through_listed set m list listed few narrow (swap_out opening m set costs kept) x
      ∙ through_best cost (in_set set (swap_out opening m set costs kept)) (swaps_out m set) x right m swaps_out_are

-- all moves of a kind
module _ (m n : ℕ) (opening service : List ℕ) (b : Priced) (costs kept : List ℕ)
    (given : MovePrices m n opening service b.set costs kept)
    (list : List ℕ) (listed : Listed b.set list) (narrow : b.set < 2 ^ m)
    (right : b ≡ priced (table_cost m n opening service) b.set) where
  pub moves_are : (moves : Neighbourhood)
      → best_move moves opening m costs kept list b
      ≡ priced (table_cost m n opening service) (next (table_cost m n opening service) (neighbours_by moves m) b.set)
  unfolding best_move next neighbours_by add_drop_swap
  moves_are AddDropSwap =
      let cost = table_cost m n opening service in
      let set = b.set in
      let added = best_add m set costs b in
      let dropped = best_drop opening set b.cost kept list added in
      let a = adds_are m n opening service set costs kept given list listed narrow b right in
      let d = ap (λ (k : ℕ). best_drop opening set k kept list added) (cost_of cost b set right)
      ∙ drops_are m n opening service set costs kept given list listed narrow added (right_of cost added _ a) in
      let s = swaps_are m n opening service set costs kept given list listed narrow dropped (right_of cost dropped _ d) in
      best_then cost set (adds m set ++ drops m set) (swaps m set) dropped _
      (best_then cost set (adds m set) (drops m set) added dropped a d) s
  moves_are Swap = swaps_are m n opening service b.set costs kept given list listed narrow b right
