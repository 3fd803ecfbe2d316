-- Laws of prices: where the kept table is that of a set, the sums over the clients are differences of costs, so every move is priced by them.
use Prim.Native.Nat.{ℕ, ◌+◌, ◌-◌, ◌*◌, ◌/◌, ◌%◌, ◌≤◌, ◌<◌, min}
use native.Mathlib.Nat.{le_trans}
use native.Mathlib.Omega.{arith}
use mathlib.Core.Path.{◌≡◌, refl, sym, ap, fun_ext, ◌∙◌}
use mathlib.Core.Bool.{Bool, true, false, cond}
use mathlib.Core.List.{List}
use lib.Dec.{eqb}
use lib.ListN.{length, get_or, take}
use lib.Seq.{get_or-take, length-take-le}
use Rattle.model.specs.Loops.{on, sum}
use Rattle.model.specs.Least.{any}
use Rattle.model.specs.Sets.{count, member, plus, minus, trade, with, without}
use Rattle.model.specs.TwoLeast.{Two}
use Rattle.model.specs.Instance.{Instance, nearest, opening_cost, service_cost, total_cost}
use Rattle.model.specs.Plans.{open_cost}
use Rattle.model.proofs.SumLaws.{sum_cong, sum_add, sum_bound, on_le}
use Rattle.model.proofs.SetLaws.{member_with, member_without, member_trade}
use Rattle.model.proofs.CountLaws.{count_minus}
use Rattle.model.proofs.LeastLaws.{any_counted}
use Rattle.model.proofs.CostLaws.{opening_plus, opening_minus, opening_trade}
use Rattle.model.proofs.NearestChangeLaws.{nearest_two, nearest_first, nearest_with, nearest_without, nearest_trade}
use Rattle.tables.specs.Bounds.{most_clients, most_entry, most_opening}
use Rattle.tables.specs.Tables.{tabled, table_cost}
use Rattle.tables.proofs.LentTableLaws.{service_sum}
use Rattle.engine.specs.Bounds.{no_facility, most_served, most_opened, most_cost, added_from, loss_from, more_from}
use Rattle.engine.specs.Tables.{Openings}
use Rattle.engine.specs.Rows.{entry, Adding, Added}
use Rattle.engine.specs.Near.{near_two}
use Rattle.engine.specs.Sums.{FirstsWithin, first_at, second_at, added_sum, more_sum, loss_sum, KeptOf, Costs}
use Rattle.engine.specs.Moves.{MovePrices}
use Rattle.engine.proofs.ClientSumLaws.{kept_small}

-- ---- the nearest facilities of all clients

pub firsts_within : (n : ℕ) (kept : List ℕ) → n ≤ most_clients → n ≤ length kept → ((j : ℕ) → j < n → first_at kept j ≤ no_facility)
    → (length (take n kept) ≤ most_clients) × FirstsWithin (take n kept)
firsts_within n kept few room within =
    let size = length-take-le n kept room in
    (omega (arith, size), λ j l. let below : j < n = omega (arith, size) in rw (get_or-take n kept j 0 below) (within j below))

-- ---- one client

-- from the second nearest where the nearest goes, else from the nearest
served_more : (out : Bool) (d e : ℕ) → d ≤ e → cond out e d ≡ d + on out (e - d)
served_more true d e h = omega arith
served_more false d e h = omega arith

traded_more : (out : Bool) (c d e : ℕ) → d ≤ e → min c (cond out e d) ≡ min c d + on out (min c e - min c d)
traded_more true c d e h = omega arith
traded_more false c d e h = omega arith

module _ (m n : ℕ) (opening service : List ℕ) (set : ℕ) (kept : List ℕ)
    (here : KeptOf m n service set kept) where
  abbrev I : Instance
  I = tabled m n opening service

  abbrev S : ℕ → Bool
  S = member set

  few : I.facilities ≤ 32
  unfolding tabled
  few = here.sums.rows.few_facilities

  bound : (j i : ℕ) → i < I.facilities → I.service i j ≤ most_entry
  unfolding tabled
  bound j i l = here.sums.rows.within (j * m + i)

  some : any I.facilities S ≡ true
  unfolding tabled
  some = here.some

  two_is : (j : ℕ) → nearest_two I most_entry j S ≡ near_two m service set j
  unfolding tabled near_two
  two_is j = refl

  first_is : (j : ℕ) → j < n → first_at kept j ≡ (nearest_two I most_entry j S).first
  first_is j l = (here.near j l).first ∙ sym (ap (λ (t : Two). t.first) (two_is j))

  second_is : (j : ℕ) → j < n → second_at kept j ≡ (nearest_two I most_entry j S).second
  second_is j l = (here.near j l).second ∙ sym (ap (λ (t : Two). t.second) (two_is j))

  ordered : (j : ℕ) → j < n → first_at kept j / 32 ≤ second_at kept j / 32
  ordered j l = let h = here.sums.ordered j l in omega arith

  -- ---- service costs: of the set, with a facility more, with one less, with one for another

  all_clients : (T : ℕ → Bool) (f : ℕ → ℕ) → ((j : ℕ) → j < n → nearest I T j ≡ f j) → service_cost I T ≡ sum n f
  all_clients T f h = sym (service_sum m n opening service T) ∙ sum_cong n h

  served_now : service_cost I S ≡ sum n (λ j. first_at kept j / 32)
  served_now =
      all_clients S (λ j. first_at kept j / 32)
      (λ j l. nearest_first I most_entry j few (bound j) S some ∙ ap (λ (x : ℕ). x / 32) (sym (first_is j l)))

  module _ (i : ℕ) (facility : i < m) (shut : S i ≡ false) where
    below_i : i < I.facilities
    unfolding tabled
    below_i = facility

    cost_of_i : (j : ℕ) → I.service i j ≡ entry m service j i
    unfolding tabled
    cost_of_i j = refl

    served_with : service_cost I (plus S i) ≡ added_sum m n service kept i
    unfolding added_sum
    served_with =
        all_clients (plus S i) (λ j. min (entry m service j i) (first_at kept j / 32))
        (λ j l. nearest_with I most_entry j few (bound j) S i below_i shut ∙ rw (cost_of_i j, first_is j l))

  module _ (o : ℕ) (facility : o < m) (is_open : S o ≡ true) where
    below_o : o < I.facilities
    unfolding tabled
    below_o = facility

    abbrev gone : ℕ → Bool
    gone j = eqb (first_at kept j % 32) o

    -- what serving client j costs from its second nearest where o is the nearest, else from the nearest
    left_at : (j : ℕ) → j < n
        → cond (eqb ((nearest_two I most_entry j S).first % 32) o) ((nearest_two I most_entry j S).second / 32) ((nearest_two I most_entry j S).first / 32)
        ≡ cond (gone j) (second_at kept j / 32) (first_at kept j / 32)
    left_at j l = rw (← first_is j l, ← second_is j l)

    served_without : any m (minus S o) ≡ true → service_cost I (minus S o) ≡ service_cost I S + loss_sum n kept o
    unfolding loss_sum tabled
    served_without left =
        all_clients (minus S o) (λ j. first_at kept j / 32 + on (gone j) (second_at kept j / 32 - first_at kept j / 32))
        (λ j l. nearest_without I most_entry j few (bound j) S o below_o is_open left
        ∙ (left_at j l ∙ served_more (gone j) (first_at kept j / 32) (second_at kept j / 32) (ordered j l)))
        ∙ (sum_add n (λ j. first_at kept j / 32) (λ j. on (gone j) (second_at kept j / 32 - first_at kept j / 32))
        ∙ ap (λ (x : ℕ). x + sum n (λ j. on (gone j) (second_at kept j / 32 - first_at kept j / 32))) (sym served_now))

    served_trade : (i : ℕ) → i < m → S i ≡ false
        → service_cost I (trade S o i) ≡ added_sum m n service kept i + more_sum m n service kept o i
    unfolding added_sum more_sum tabled
    served_trade i facility_i shut =
        all_clients (trade S o i) (λ j. min (c j) (d j) + on (gone j) (min (c j) (e j) - min (c j) (d j)))
        (λ j l. nearest_trade I most_entry j few (bound j) S o below_o is_open i facility_i shut
        ∙ (ap (λ (x : ℕ). min (c j) x) (left_at j l) ∙ traded_more (gone j) (c j) (d j) (e j) (ordered j l)))
        ∙ sum_add n (λ j. min (c j) (d j)) (λ j. on (gone j) (min (c j) (e j) - min (c j) (d j)))
      where
        c : ℕ → ℕ
        c j = entry m service j i

        d : ℕ → ℕ
        d j = first_at kept j / 32

        e : ℕ → ℕ
        e j = second_at kept j / 32

  -- ---- what moves cost

  -- the cost of any set, by what its members are
  cost_by : (x : ℕ) (T : ℕ → Bool) → ((k : ℕ) → member x k ≡ T k) → table_cost m n opening service x ≡ opening_cost I T + service_cost I T
  unfolding table_cost open_cost total_cost
  cost_by x T agree = ap (λ (R : ℕ → Bool). opening_cost I R + service_cost I R) (fun_ext agree)

  -- the cost of the set itself
  pub cost_now : (opened served : ℕ) → opened ≡ opening_cost I S → served ≡ sum (length (take n kept)) (λ j. get_or (take n kept) j 0 / 32)
      → opened + served ≡ table_cost m n opening service set
  cost_now opened served f s =
      let size : length (take n kept) ≡ n = length-take-le n kept (omega (arith, here.sums.room, here.sums.rows.few_clients)) in
      let same = sum_cong n (λ j l. ap (λ (x : ℕ). x / 32) (get_or-take n kept j 0 l)) in
      omega (arith, rw size at s, same, served_now, cost_by set S (λ k. refl))

  below_32 : {i : ℕ} → i < m → i < 32
  below_32 l = omega (arith, here.sums.rows.few_facilities)

  -- ---- bounds

  pub opening_few : Openings m opening → opening_cost I S ≤ most_opened
  unfolding opening_cost tabled
  opening_few opened =
      let each = sum_bound m most_opening (λ i. on (S i) (get_or opening i 0)) (λ i l. le_trans (on_le (S i) (get_or opening i 0)) (opened.small i l)) in
      omega (arith, here.sums.rows.few_facilities)

  served_few : service_cost I S ≤ most_served
  served_few =
      let each = sum_bound n most_entry (λ j. first_at kept j / 32) (λ j l. omega (arith, here.sums.ordered j l, here.sums.within j l)) in
      omega (arith, here.sums.rows.few_clients, served_now)

  pub cost_few : Openings m opening → table_cost m n opening service set ≤ most_cost
  cost_few opened = omega (arith, cost_by set S (λ k. refl), opening_few opened, served_few)

  -- what is added up place by place
  pub adding : (k : ℕ) (costs : List ℕ) → Openings m opening → k ≡ opening_cost I S → 32 ≤ length costs → Adding k opening kept costs
  adding k costs opened e room =
      record {
        opening_room = opened.room;
        kept_room = omega (arith, here.sums.room);
        costs_room = room;
        small = λ i l. omega (arith, opening_few opened, opened.high i l, kept_small here.sums (added_from + i) (omega arith) (omega arith));
      }

  module _ (costs : List ℕ) (opened : Openings m opening) (filled : Costs m n opening service set kept costs) where
    add_is : (i : ℕ) → i < m → S i ≡ false → get_or costs i 0 ≡ table_cost m n opening service (with set i)
    unfolding tabled
    add_is i l shut =
        omega (
          arith,
          filled i (below_32 l),
          here.sums.added_is i (below_32 l),
          cost_by (with set i) (plus S i) (member_with set i),
          opening_plus I S i l shut,
          served_with i l shut,
        )

    drop_is : (o : ℕ) → o < m → S o ≡ true → 2 ≤ count m S
        → table_cost m n opening service set + get_or kept (loss_from + o) 0 ≡ table_cost m n opening service (without set o) + get_or opening o 0
    unfolding tabled
    drop_is o l is_open two =
        let left : any m (minus S o) ≡ true = any_counted m (minus S o) (omega (arith, count_minus m o S l is_open)) in
        omega (
          arith,
          here.sums.loss_is o (below_32 l),
          cost_by set S (λ k. refl),
          cost_by (without set o) (minus S o) (member_without set o),
          opening_minus I S o l is_open,
          served_without o l is_open left,
        )

    swap_is : (o i : ℕ) → o < m → S o ≡ true → i < m → S i ≡ false
        → get_or kept (more_from + 32 * o + i) 0 + get_or costs i 0 ≡ table_cost m n opening service (with (without set o) i) + get_or opening o 0
    unfolding tabled
    swap_is o i lo is_open li shut =
        omega (
          arith,
          filled i (below_32 li),
          here.sums.added_is i (below_32 li),
          here.sums.more_is o i (below_32 lo) (below_32 li),
          cost_by (with (without set o) i) (trade S o i) (member_trade set o i),
          opening_trade I S o i lo is_open li shut,
          served_trade o lo is_open i li shut,
        )

    by_costs : 32 ≤ length costs → MovePrices m n opening service set costs kept
    by_costs costs_room =
        record {
          few_facilities = here.sums.rows.few_facilities;
          opening_room = opened.room;
          costs_room = costs_room;
          kept_room = here.sums.room;
          opening_small = opened.small;
          costs_small = λ i l. omega (arith, filled i l, opening_few opened, opened.high i l, kept_small here.sums (added_from + i) (omega arith) (omega arith));
          kept_small = kept_small here.sums;
          cost_small = cost_few opened;
          add = add_is;
          drop = drop_is;
          swap = swap_is;
        }

  -- every move is priced
  pub prices : (k : ℕ) (costs : List ℕ) → Openings m opening → k ≡ opening_cost I S → Added 32 k opening kept costs → 32 ≤ length costs
      → MovePrices m n opening service set costs kept
  prices k costs opened e added =
      by_costs costs opened (λ i l. added i l ∙ ap (λ (x : ℕ). x + get_or opening i 0 + get_or kept (added_from + i) 0) e)
