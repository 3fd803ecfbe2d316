-- Laws of the sums that the search keeps: one client's part in each, how large they are, that no change of them wraps, and what they are
-- at the start. A client whose two nearest are one and the same adds nothing to the losses and to what is paid more, whatever facility it is; so a client
-- that is not counted has what stands for a missing facility as both.
use Prim.Native.Nat.{ℕ, ◌+◌, ◌-◌, ◌*◌, ◌/◌, ◌%◌, ◌≤◌, ◌<◌, min}
use native.Mathlib.Nat.{le_refl, le_trans}
use native.Mathlib.Omega.{arith}
use mathlib.Core.Path.{◌≡◌, refl, sym, ap, ap₂, subst, ◌∙◌}
use mathlib.Core.Bool.{Bool}
use mathlib.Core.List.{List}
use borrow.Author.Tests.{eq-eqb, ne_eqb, ltb-true, ltb-false}
use lib.Dec.{eqb, ltb}
use lib.ListN.{length, get_or, take, drop, length-take, length-drop}
use lib.Seq.{get_or-take, get_or-drop}
use Rattle.model.specs.Loops.{on}
use Rattle.model.proofs.Bools.{cases}
use Rattle.model.proofs.SumLaws.{sum_bound, sum_term, sum_cong, sum_zero, on_zero, on_true, on_le}
use Rattle.model.proofs.PlaceLaws.{row_within, few_places}
use Rattle.rows.specs.Shifts.{half_end, shifted, shifted_in, shifted_out}
use Rattle.rows.proofs.ExactLaws.{Shiftable, Shifted, ShiftedBoth, exactly_shifted, exactly_in, exactly_out}
use Rattle.tables.specs.Bounds.{most_entry}
use Rattle.tables.proofs.BoundLaws.{entry_small}
use Rattle.engine.specs.Bounds.{no_facility, most_served, seconds_from, added_from, loss_from, more_from, kept_length}
use Rattle.engine.specs.Rows.{entry, Rows, ColumnSums}
use Rattle.engine.specs.Sums.{first_at, second_at, added_sum, more_sum, loss_sum, Kept, Uncounted}

-- ---- one client's part in each sum, by its two nearest facilities

abbrev pub more_of : ℕ → ℕ → ℕ → ℕ → ℕ
more_of o c first second = on (eqb (first % 32) o) (min c (second / 32) - min c (first / 32))

abbrev pub loss_of : ℕ → ℕ → ℕ → ℕ
loss_of o first second = on (eqb (first % 32) o) (second / 32 - first / 32)

-- facility o is the nearest, or it is not
pub on_owner : (a o x : ℕ) → a ≡ o → on (eqb a o) x ≡ x
on_owner a o x e = on_true x (eq-eqb a o e)

pub on_other : (a o x : ℕ) → ¬ (a ≡ o) → on (eqb a o) x ≡ 0
on_other a o x ne = ap (λ (b : Bool). on b x) (ne_eqb a o ne)

-- what is paid more up to the second, and what the cost is above the second, come to what it is above the first
pub more_fills : (c first second : ℕ) → first ≤ second → (min c second - min c first) + (c - second) ≡ c - first
more_fills c first second ordered = omega arith

pub least_fills : (c x : ℕ) → min c x + (c - x) ≡ c
least_fills c x = omega arith

pub one_more : (o c x : ℕ) → more_of o c x x ≡ 0
one_more o c x =
    let none : min c (x / 32) - min c (x / 32) ≡ 0 = omega arith in
    ap (on (eqb (x % 32) o)) none ∙ on_zero (eqb (x % 32) o)

pub one_loss : (o x : ℕ) → loss_of o x x ≡ 0
one_loss o x =
    let none : x / 32 - x / 32 ≡ 0 = omega arith in
    ap (on (eqb (x % 32) o)) none ∙ on_zero (eqb (x % 32) o)

more_little : (o c first second : ℕ) → c ≤ most_entry → more_of o c first second ≤ most_entry
more_little o c first second small =
    omega (arith, on_le (eqb (first % 32) o) (min c (second / 32) - min c (first / 32)))

loss_little : (o first second : ℕ) → second ≤ no_facility → loss_of o first second ≤ most_entry
loss_little o first second small = omega (arith, on_le (eqb (first % 32) o) (second / 32 - first / 32))

-- the cost in a number of facility and cost is within its bound
pub divided_cost : (x : ℕ) → x ≤ no_facility → x / 32 ≤ most_entry
divided_cost x l = omega arith

-- a cost within its bound is in the lower half of 32 bits
entry_low : (c : ℕ) → c ≤ most_entry → c < half_end
entry_low c within = below c most_entry half_end within entry_small
  where
    below : (c top end : ℕ) → c ≤ top → top < end → c < end
    below c top end small ends = omega arith

-- ---- how large the sums are

module _ {m n : ℕ} {service kept : List ℕ} (sums : Kept m n service kept) where
  added_small : (i : ℕ) → i < 32 → get_or kept (added_from + i) 0 ≤ most_served
  unfolding added_sum
  added_small i l =
      let f : ℕ → ℕ = λ j. min (entry m service j i) (first_at kept j / 32) in
      let bound = sum_bound n most_entry f (λ j l. omega (arith, sums.rows.within (j * m + i))) in
      omega (arith, sums.added_is i l, bound, sums.rows.few_clients)

  pub loss_small : (o : ℕ) → o < 32 → get_or kept (loss_from + o) 0 ≤ most_served
  unfolding loss_sum
  loss_small o l =
      let f : ℕ → ℕ = λ j. loss_of o (first_at kept j) (second_at kept j) in
      let bound = sum_bound n most_entry f (λ j l. loss_little o (first_at kept j) (second_at kept j) (sums.within j l)) in
      omega (arith, sums.loss_is o l, bound, sums.rows.few_clients)

  more_small : (o i : ℕ) → o < 32 → i < 32 → get_or kept (more_from + 32 * o + i) 0 ≤ most_served
  unfolding more_sum
  more_small o i lo li =
      let f : ℕ → ℕ = λ j. more_of o (entry m service j i) (first_at kept j) (second_at kept j) in
      let bound = sum_bound n most_entry f (λ j l. more_little o _ (first_at kept j) (second_at kept j) (sums.rows.within (j * m + i))) in
      omega (arith, sums.more_is o i lo li, bound, sums.rows.few_clients)

  pub kept_small : (k : ℕ) → added_from ≤ k → k < kept_length → get_or kept k 0 ≤ most_served
  kept_small k from below =
      cases (ltb k loss_from)
      (λ e. let l = ltb-true k loss_from e in at_place (added_from + (k - added_from)) (omega arith) (added_small (k - added_from) (omega arith)))
      (λ e. let g = ltb-false k loss_from e in
      cases (ltb k more_from)
      (λ e. let l = ltb-true k more_from e in at_place (loss_from + (k - loss_from)) (omega arith) (loss_small (k - loss_from) (omega arith)))
      (λ e. let h = ltb-false k more_from e in
      at_place (more_from + 32 * ((k - more_from) / 32) + (k - more_from) % 32) (omega arith)
      (more_small ((k - more_from) / 32) ((k - more_from) % 32) (omega arith) (omega arith))))
    where
      at_place : (p : ℕ) → p ≡ k → get_or kept p 0 ≤ most_served → get_or kept k 0 ≤ most_served
      at_place p e = subst (λ (k : ℕ). get_or kept k 0 ≤ most_served) e

  -- ---- no change wraps

  module _ (j : ℕ) (client : j < n) where
    pub kept_row_small : j * m ≤ 4096
    kept_row_small =
        omega (arith, row_within m n j client, few_places m n sums.rows.few_facilities sums.rows.few_clients)

    -- the row of client j
    abbrev row : List ℕ
    row = take (j * m + 32 - j * m) (drop (j * m) service)

    pub row_room : j * m + 32 ≤ length service
    row_room = omega (arith, row_within m n j client, sums.rows.room)

    row_long : 32 ≤ length row
    row_long = rw (length-take, length-drop) (omega (arith, row_room))

    row_entries : (i : ℕ) → i < 32 → get_or row i 0 ≡ entry m service j i
    row_entries i l = get_or-take (j * m + 32 - j * m) (drop (j * m) service) i 0 (omega arith) ∙ get_or-drop (j * m) service i 0

    -- a client's part in a sum is at most the sum
    more_part : (i : ℕ) → i < 32
        → min (entry m service j i) (second_at kept j / 32) - min (entry m service j i) (first_at kept j / 32)
        ≤ get_or kept (more_from + 32 * (first_at kept j % 32) + i) 0
    unfolding more_sum
    more_part i l =
        let o = first_at kept j % 32 in
        let x = min (entry m service j i) (second_at kept j / 32) - min (entry m service j i) (first_at kept j / 32) in
        omega (
          arith,
          sums.more_is o i (omega arith) l,
          sum_term n (λ j. more_of o (entry m service j i) (first_at kept j) (second_at kept j)) j client,
          on_owner o o x refl,
        )

    pub loss_enough : second_at kept j / 32 ≤ get_or kept (loss_from + first_at kept j % 32) 0 + first_at kept j / 32
    unfolding loss_sum
    loss_enough =
        let o = first_at kept j % 32 in
        let x = second_at kept j / 32 - first_at kept j / 32 in
        omega (
          arith,
          sums.loss_is o (omega arith),
          sum_term n (λ j. loss_of o (first_at kept j) (second_at kept j)) j client,
          on_owner o o x refl,
        )

    cost_low : (i : ℕ) → i < 32 → entry m service j i < half_end
    cost_low i l = entry_low (entry m service j i) (sums.rows.within (j * m + i))

    near_low : (x : ℕ) → x ≤ no_facility → x / 32 < half_end
    near_low x l = entry_low (x / 32) (divided_cost x l)

    first_within : first_at kept j ≤ no_facility
    first_within = le_trans (sums.ordered j client) (sums.within j client)

    -- its second nearest changes
    second_ready : (second : ℕ) → first_at kept j ≤ second → second ≤ no_facility
        → Shiftable (entry m service j) (second_at kept j / 32) (second / 32) kept (more_from + 32 * (first_at kept j % 32))
    second_ready second ordered within =
        record {
          costs_low = cost_low;
          plus_low = near_low (second_at kept j) (sums.within j client);
          minus_low = near_low second within;
          room = omega (arith, sums.room);
          enough =
              λ i l. omega (
                arith,
                more_part i l,
                more_fills (entry m service j i) (first_at kept j / 32) (second_at kept j / 32) (omega (arith, sums.ordered j client)),
              );
          small = λ i l. omega (arith, more_small (first_at kept j % 32) i (omega arith) l, sums.rows.within (j * m + i));
        }

    pub second_shifted : (second : ℕ) → first_at kept j ≤ second → second ≤ no_facility → (after : List ℕ)
        → after ≡ shifted row (second_at kept j / 32) (second / 32) kept (more_from + 32 * (first_at kept j % 32))
        → Shifted (entry m service j) (second_at kept j / 32) (second / 32) kept (more_from + 32 * (first_at kept j % 32)) after
    second_shifted second ordered within after is = exactly_shifted row (entry m service j) row_long row_entries (second_ready second ordered within) is

    -- it is counted in, where it was not counted
    pub enter_shifted : (first second : ℕ) → first ≤ second → second ≤ no_facility → Uncounted kept j → (after : List ℕ)
        → after ≡ shifted_in row (first / 32) (second / 32) kept added_from (more_from + 32 * (first % 32))
        → ShiftedBoth (entry m service j) most_entry (first / 32) (first / 32) (second / 32) kept added_from (more_from + 32 * (first % 32)) after
    unfolding added_sum
    enter_shifted first second ordered within apart after is =
        exactly_in row (entry m service j) row_long row_entries (λ i l. sums.rows.within (j * m + i)) (omega arith) (omega arith)
        (record {
          costs_low = cost_low;
          plus_low = entry_small;
          minus_low = near_low first (le_trans ordered within);
          room = omega (arith, sums.room);
          enough =
              λ i l. omega (
                arith,
                sums.added_is i l,
                sum_term n (λ j. min (entry m service j i) (first_at kept j / 32)) j client,
                apart.first,
                sums.rows.within (j * m + i),
              );
          small = λ i l. omega (arith, added_small i l, sums.rows.within (j * m + i));
        })
        (record {
          costs_low = cost_low;
          plus_low = near_low first (le_trans ordered within);
          minus_low = near_low second within;
          room = omega (arith, sums.room);
          enough = λ i l. omega arith;
          small = λ i l. omega (arith, more_small (first % 32) i (omega arith) l, sums.rows.within (j * m + i));
        })
        is

    -- it is counted out
    pub leave_shifted : (after : List ℕ)
        → after ≡ shifted_out row (first_at kept j / 32) (second_at kept j / 32) kept added_from (more_from + 32 * (first_at kept j % 32))
        → ShiftedBoth (entry m service j) (first_at kept j / 32) most_entry (second_at kept j / 32) (first_at kept j / 32) kept added_from (more_from + 32 * (first_at kept j % 32)) after
    leave_shifted after is =
        exactly_out row (entry m service j) row_long row_entries (λ i l. sums.rows.within (j * m + i)) (omega arith) (omega (arith, sums.ordered j client))
        (record {
          costs_low = cost_low;
          plus_low = near_low (first_at kept j) first_within;
          minus_low = entry_small;
          room = omega (arith, sums.room);
          enough = λ i l. omega (arith, sums.rows.within (j * m + i));
          small = λ i l. omega (arith, added_small i l, sums.rows.within (j * m + i));
        })
        (second_ready (first_at kept j) (le_refl (first_at kept j)) first_within)
        is

-- ---- at the start

-- every client's two are the highest cost, and so the added facility is every client's nearest
pub kept_start : (m n : ℕ) (service kept : List ℕ) → Rows m n service → kept_length ≤ length kept
    → ((k : ℕ) → k < added_from → get_or kept k 0 ≡ no_facility) → ColumnSums m n service kept
    → ((k : ℕ) → loss_from ≤ k → k < kept_length → get_or kept k 0 ≡ 0) → Kept m n service kept
unfolding added_sum more_sum loss_sum
kept_start m n service kept rows room high sums zeros =
    let firsts : (j : ℕ) → j < n → first_at kept j ≡ no_facility = λ j l. high j (omega (arith, rows.few_clients)) in
    let seconds : (j : ℕ) → j < n → second_at kept j ≡ no_facility = λ j l. high (seconds_from + j) (omega (arith, rows.few_clients)) in
    record {
      rows = rows;
      room = room;
      ordered = λ j l. omega (arith, firsts j l, seconds j l);
      within = λ j l. omega (arith, seconds j l);
      added_is = λ i l. sums i l ∙ sum_cong n (λ j l. omega (arith, firsts j l, rows.within (j * m + i)));
      loss_is =
          λ o lo. zeros (loss_from + o) (omega arith) (omega arith)
          ∙ sym (sum_cong n (λ j l. ap₂ (loss_of o) (firsts j l) (seconds j l) ∙ one_loss o no_facility) ∙ sum_zero n);
      more_is =
          λ o i lo li. zeros (more_from + 32 * o + i) (omega arith) (omega arith)
          ∙ sym (sum_cong n (λ j l. ap₂ (more_of o (entry m service j i)) (firsts j l) (seconds j l) ∙ one_more o (entry m service j i) no_facility) ∙ sum_zero n);
    }
