-- Laws of the sums that the search keeps as one client's two nearest facilities change: its second alone, or the client counted in, or out.
use Prim.Native.Nat.{ℕ, ◌+◌, ◌-◌, ◌*◌, ◌/◌, ◌%◌, ◌≤◌, ◌<◌, min}
use native.Mathlib.Nat.{le_refl, le_trans, lt_of_lt_of_le}
use native.Mathlib.Omega.{arith}
use mathlib.Core.Path.{◌≡◌, sym, ap, ap₂, subst, ◌∙◌}
use mathlib.Core.List.{List}
use borrow.Author.Tests.{eqb-true, eqb-false}
use lib.Dec.{eqb}
use lib.ListN.{length, get_or, set, length-set}
use lib.Seq.{get_or-set_same, get_or-set_other}
use Rattle.model.proofs.Bools.{cases}
use Rattle.model.proofs.SumLaws.{sum_change}
use Rattle.rows.specs.Shifts.{word_end}
use Rattle.rows.proofs.ExactLaws.{Shifted, ShiftedBoth}
use Rattle.tables.specs.Bounds.{most_clients, most_entry}
use Rattle.engine.specs.Bounds.{no_facility, seconds_from, added_from, loss_from, more_from, kept_length}
use Rattle.engine.specs.Rows.{entry}
use Rattle.engine.specs.Sums.{first_at, second_at, added_sum, more_sum, loss_sum, Kept, PutAt, Uncounted}
use Rattle.engine.proofs.ClientSumLaws.{more_of, loss_of, least_fills, one_more, one_loss, divided_cost, loss_small, loss_enough}
use Rattle.engine.proofs.sums.KeptPlaceLaws.{LossStored, RowShifted, stored_room, stored_else, stored_put, stored_loss_alone, loss_step, more_step}

-- ---- kept as a client's two nearest change

-- a number that follows a sum as the sum goes on
follows : (x s x' s' p q : ℕ) → x ≡ s → s' + p ≡ s + q → x' + p ≡ x + q → x' ≡ s'
follows x s x' s' p q e sum number = omega arith

module _ {m n : ℕ} {service before : List ℕ} (sums : Kept m n service before) (j : ℕ) (client : j < n) (first second : ℕ) (after : List ℕ)
    (put : PutAt j first second before after) where
  firsts_stay : (k : ℕ) → k < n → ¬ (k ≡ j) → first_at after k ≡ first_at before k
  firsts_stay k l ne = put.others.firsts k (lt_of_lt_of_le l sums.rows.few_clients) ne

  seconds_stay : (k : ℕ) → k < n → ¬ (k ≡ j) → second_at after k ≡ second_at before k
  seconds_stay k l ne = put.others.seconds k (lt_of_lt_of_le l sums.rows.few_clients) ne

  added_change : (i : ℕ) → added_sum m n service after i + min (entry m service j i) (first_at before j / 32)
      ≡ added_sum m n service before i + min (entry m service j i) (first / 32)
  unfolding added_sum
  added_change i =
      sum_change n j (λ j. min (entry m service j i) (first_at after j / 32)) (λ j. min (entry m service j i) (first_at before j / 32))
      client (λ k l ne. ap (λ (x : ℕ). min (entry m service k i) (x / 32)) (firsts_stay k l ne))
      ∙ ap (λ (x : ℕ). added_sum m n service before i + min (entry m service j i) (x / 32)) put.first_is

  more_change : (o i : ℕ) → more_sum m n service after o i + more_of o (entry m service j i) (first_at before j) (second_at before j)
      ≡ more_sum m n service before o i + more_of o (entry m service j i) first second
  unfolding more_sum
  more_change o i =
      sum_change n j (λ j. more_of o (entry m service j i) (first_at after j) (second_at after j))
      (λ j. more_of o (entry m service j i) (first_at before j) (second_at before j)) client
      (λ k l ne. ap₂ (more_of o (entry m service k i)) (firsts_stay k l ne) (seconds_stay k l ne))
      ∙ ap₂ (λ (x y : ℕ). more_sum m n service before o i + more_of o (entry m service j i) x y) put.first_is put.second_is

  loss_change : (o : ℕ) → loss_sum n after o + loss_of o (first_at before j) (second_at before j)
      ≡ loss_sum n before o + loss_of o first second
  unfolding loss_sum
  loss_change o =
      sum_change n j (λ j. loss_of o (first_at after j) (second_at after j)) (λ j. loss_of o (first_at before j) (second_at before j)) client
      (λ k l ne. ap₂ (loss_of o) (firsts_stay k l ne) (seconds_stay k l ne))
      ∙ ap₂ (λ (x y : ℕ). loss_sum n before o + loss_of o x y) put.first_is put.second_is

  -- it is enough that each number goes on as the client's part in it does
  kept_change : first ≤ second → second ≤ no_facility → kept_length ≤ length after
      → ((i : ℕ) → i < 32 → get_or after (added_from + i) 0 + min (entry m service j i) (first_at before j / 32)
      ≡ get_or before (added_from + i) 0 + min (entry m service j i) (first / 32))
      → ((o : ℕ) → o < 32 → get_or after (loss_from + o) 0 + loss_of o (first_at before j) (second_at before j)
      ≡ get_or before (loss_from + o) 0 + loss_of o first second)
      → ((o i : ℕ) → o < 32 → i < 32
      → get_or after (more_from + 32 * o + i) 0 + more_of o (entry m service j i) (first_at before j) (second_at before j)
      ≡ get_or before (more_from + 32 * o + i) 0 + more_of o (entry m service j i) first second)
      → Kept m n service after
  kept_change ordered within room added loss more =
      record {
        rows = sums.rows;
        room = room;
        ordered =
            client_by_client (λ k. first_at after k ≤ second_at after k) (omega (arith, put.first_is, put.second_is))
            (λ k l ne. omega (arith, firsts_stay k l ne, seconds_stay k l ne, sums.ordered k l));
        within =
            client_by_client (λ k. second_at after k ≤ no_facility) (omega (arith, put.second_is))
            (λ k l ne. omega (arith, seconds_stay k l ne, sums.within k l));
        added_is = λ i l. follows _ _ _ _ _ _ (sums.added_is i l) (added_change i) (added i l);
        loss_is = λ o l. follows _ _ _ _ _ _ (sums.loss_is o l) (loss_change o) (loss o l);
        more_is = λ o i lo li. follows _ _ _ _ _ _ (sums.more_is o i lo li) (more_change o i) (more o i lo li);
      }
    where
      client_by_client : (P : ℕ → Type 0) → P j → ((k : ℕ) → k < n → ¬ (k ≡ j) → P k) → (k : ℕ) → k < n → P k
      client_by_client P here others k l =
          cases (eqb k j) (λ e. subst P (sym (eqb-true k j e)) here) (λ e. others k l (eqb-false k j e))

module _ {m n : ℕ} {service before : List ℕ} (sums : Kept m n service before) (j : ℕ) (client : j < n) where
  early : j < most_clients
  early = lt_of_lt_of_le client sums.rows.few_clients

  -- the second nearest
  module _ (second : ℕ) (ordered : first_at before j ≤ second) (within : second ≤ no_facility) (mid : List ℕ)
      (shifted : Shifted (entry m service j) (second_at before j / 32) (second / 32) before (more_from + 32 * (first_at before j % 32)) mid)
      (same_length : length mid ≡ length before) where
    mid_room : kept_length ≤ length mid
    mid_room = rw same_length sums.room

    loss_held : get_or mid (loss_from + first_at before j % 32) 0 ≡ get_or before (loss_from + first_at before j % 32) 0
    loss_held = shifted.below (loss_from + first_at before j % 32) (omega arith)

    pub second_loss_fits : get_or mid (loss_from + first_at before j % 32) 0 + second / 32 < word_end
    second_loss_fits = omega (arith, loss_held, loss_small sums (first_at before j % 32) (omega arith))

    pub second_loss_enough : second_at before j / 32 ≤ get_or mid (loss_from + first_at before j % 32) 0 + second / 32
    second_loss_enough = omega (arith, loss_held, loss_enough sums j client)

    abbrev second_table : List ℕ
    second_table =
        set (set mid (loss_from + first_at before j % 32) (get_or mid (loss_from + first_at before j % 32) 0 + second / 32 - second_at before j / 32)) (seconds_from + j) second

    pub second_put : PutAt j (first_at before j) second before second_table
    second_put =
        stored_put mid mid_room j (first_at before j % 32) _ second early (omega arith) before (first_at before j)
        (shifted.below j (omega (arith, early))) (λ k l ne. shifted.below k (omega arith))

    pub second_kept : Kept m n service second_table
    second_kept =
        kept_change sums j client (first_at before j) second _ second_put ordered within
        (stored_room mid mid_room j (first_at before j % 32) _ second early (omega arith))
        (λ i l. ap (λ (x : ℕ). x + min (entry m service j i) (first_at before j / 32))
        (stored_else mid mid_room j (first_at before j % 32) _ second early (omega arith) (added_from + i) (λ q. omega (arith, early)) (λ q. omega arith)
        ∙ shifted.below (added_from + i) (omega arith)))
        (loss_step (j * m) (first_at before j) (second_at before j) second (sums.ordered j client) ordered row (loss_enough sums j client) loss)
        (more_step (j * m) (first_at before j) (second_at before j) second (sums.ordered j client) ordered row (loss_enough sums j client) loss)
      where
        loss : LossStored (first_at before j % 32) (get_or mid (loss_from + first_at before j % 32) 0 + second / 32 - second_at before j / 32) mid second_table
        loss = stored_loss_alone mid mid_room j (first_at before j % 32) _ second early (omega arith)

        row : RowShifted service (j * m) (first_at before j % 32) (second_at before j / 32) (second / 32) before mid
        row = record { inside = shifted.inside; below = λ k l h. shifted.below k h; above = shifted.above }

  -- both places of the client, in a table whose two stretches have been shifted
  module _ (first second o x : ℕ) (facility : o < 32) (mid : List ℕ) (same_length : length mid ≡ length before) where
    abbrev with_first : List ℕ
    with_first = set mid j first

    abbrev both_table : List ℕ
    both_table = set (set with_first (loss_from + o) x) (seconds_from + j) second

    first_room : kept_length ≤ length with_first
    first_room = rw (length-set, same_length) sums.room

    first_else : (k : ℕ) → ¬ (k ≡ j) → get_or with_first k 0 ≡ get_or mid k 0
    first_else k ne = get_or-set_other mid j k first 0 ne

    both_room : kept_length ≤ length both_table
    both_room = stored_room with_first first_room j o x second early facility

    both_loss : LossStored o x with_first both_table
    both_loss = stored_loss_alone with_first first_room j o x second early facility

    module _ {plus₁ minus₁ plus₂ minus₂ : ℕ}
        (shifted : ShiftedBoth (entry m service j) plus₁ minus₁ plus₂ minus₂ before added_from (more_from + 32 * o) mid) where
      loss_as_before : get_or with_first (loss_from + o) 0 ≡ get_or before (loss_from + o) 0
      loss_as_before =
          first_else (loss_from + o) (λ q. omega (arith, early)) ∙ shifted.between (loss_from + o) (omega arith) (omega arith)

      both_put : PutAt j first second before both_table
      both_put =
          stored_put with_first first_room j o x second early facility before first
          (get_or-set_same mid j first 0 (omega (arith, early, sums.room, same_length)))
          (λ k l ne. first_else k ne ∙ shifted.below k l)

      both_row : RowShifted service (j * m) o plus₂ minus₂ before with_first
      both_row =
          record {
            inside = λ i l. ap (λ (x : ℕ). x + (get_or service (j * m + i) 0 - minus₂)) (first_else (more_from + 32 * o + i) (λ q. omega (arith, early))) ∙ shifted.second i l;
            below = λ k l h. first_else k (λ q. omega (arith, early)) ∙ shifted.between k l h;
            above = λ k l. first_else k (λ q. omega (arith, early)) ∙ shifted.above k l;
          }

      both_added : (i : ℕ) → i < 32 → get_or both_table (added_from + i) 0 + min (entry m service j i) plus₁
          ≡ get_or before (added_from + i) 0 + min (entry m service j i) minus₁
      both_added i l =
          ap (λ (x : ℕ). x + min (entry m service j i) plus₁)
          (stored_else with_first first_room j o x second early facility (added_from + i) (λ q. omega (arith, early)) (λ q. omega arith)
          ∙ first_else (added_from + i) (λ q. omega (arith, early)))
          ∙ added_moves (get_or before (added_from + i) 0) (get_or mid (added_from + i) 0) (entry m service j i) plus₁ minus₁ (shifted.first i l)
        where
          added_moves : (x y c p q : ℕ) → y + (c - q) ≡ x + (c - p) → y + min c p ≡ x + min c q
          added_moves x y c p q moved = omega (arith, least_fills c p, least_fills c q)

  -- a client that was not counted
  module _ (first second : ℕ) (ordered : first ≤ second) (within : second ≤ no_facility) (apart : Uncounted before j) (mid : List ℕ)
      (shifted : ShiftedBoth (entry m service j) most_entry (first / 32) (first / 32) (second / 32) before added_from (more_from + 32 * (first % 32)) mid)
      (same_length : length mid ≡ length before) where
    abbrev entered : ℕ
    entered = first % 32

    facility : entered < 32
    facility = omega arith

    abbrev enter_loss : ℕ
    enter_loss = get_or (set mid j first) (loss_from + entered) 0 + second / 32 - first / 32

    pub enter_loss_fits : get_or (set mid j first) (loss_from + entered) 0 + second / 32 < word_end
    enter_loss_fits =
        omega (arith, loss_as_before first second entered enter_loss facility mid same_length shifted, loss_small sums entered facility)

    pub enter_put : PutAt j first second before (set (set (set mid j first) (loss_from + first % 32) (get_or (set mid j first) (loss_from + first % 32) 0 + second / 32 - first / 32)) (seconds_from + j) second)
    enter_put = both_put first second entered enter_loss facility mid same_length shifted

    pub enter_kept : Kept m n service (set (set (set mid j first) (loss_from + first % 32) (get_or (set mid j first) (loss_from + first % 32) 0 + second / 32 - first / 32)) (seconds_from + j) second)
    enter_kept =
        kept_change sums j client first second _ enter_put ordered within
        (both_room first second entered enter_loss facility mid same_length)
        (λ i l. ap (λ (x : ℕ). get_or (both_table first second entered enter_loss facility mid same_length) (added_from + i) 0 + min (entry m service j i) (x / 32)) apart.first
        ∙ both_added first second entered enter_loss facility mid same_length shifted i l)
        (λ o l. ap (λ (x : ℕ). get_or (both_table first second entered enter_loss facility mid same_length) (loss_from + o) 0 + x) (no_loss o)
        ∙ loss_step (j * m) first first second (le_refl first) ordered row (omega arith) loss o l)
        (λ o i lo li. ap (λ (x : ℕ). get_or (both_table first second entered enter_loss facility mid same_length) (more_from + 32 * o + i) 0 + x) (no_more o i)
        ∙ more_step (j * m) first first second (le_refl first) ordered row (omega arith) loss o i lo li)
      where
        row : RowShifted service (j * m) entered (first / 32) (second / 32) before (set mid j first)
        row = both_row first second entered enter_loss facility mid same_length shifted

        loss : LossStored entered enter_loss (set mid j first) (both_table first second entered enter_loss facility mid same_length)
        loss = both_loss first second entered enter_loss facility mid same_length

        one : second_at before j ≡ first_at before j
        one = apart.second ∙ sym apart.first

        no_loss : (o : ℕ) → loss_of o (first_at before j) (second_at before j) ≡ loss_of o first first
        no_loss o = ap (loss_of o (first_at before j)) one ∙ one_loss o (first_at before j) ∙ sym (one_loss o first)

        no_more : (o i : ℕ) → more_of o (entry m service j i) (first_at before j) (second_at before j) ≡ more_of o (entry m service j i) first first
        no_more o i =
            ap (more_of o (entry m service j i) (first_at before j)) one ∙ one_more o (entry m service j i) (first_at before j)
            ∙ sym (one_more o (entry m service j i) first)

  -- a client that is not counted any more
  module _ (mid : List ℕ)
      (shifted : ShiftedBoth (entry m service j) (first_at before j / 32) most_entry (second_at before j / 32) (first_at before j / 32) before added_from (more_from + 32 * (first_at before j % 32)) mid)
      (same_length : length mid ≡ length before) where
    abbrev left : ℕ
    left = first_at before j % 32

    at_facility : left < 32
    at_facility = omega arith

    abbrev leave_loss : ℕ
    leave_loss = get_or (set mid j no_facility) (loss_from + left) 0 + first_at before j / 32 - second_at before j / 32

    pub leave_loss_fits : get_or (set mid j no_facility) (loss_from + left) 0 + first_at before j / 32 < word_end
    leave_loss_fits =
        omega (
          arith,
          loss_as_before no_facility no_facility left leave_loss at_facility mid same_length shifted,
          loss_small sums left at_facility,
          divided_cost (first_at before j) (le_trans (sums.ordered j client) (sums.within j client)),
        )

    pub leave_loss_enough : second_at before j / 32 ≤ get_or (set mid j no_facility) (loss_from + left) 0 + first_at before j / 32
    leave_loss_enough =
        omega (arith, loss_as_before no_facility no_facility left leave_loss at_facility mid same_length shifted, loss_enough sums j client)

    pub leave_put : PutAt j no_facility no_facility before (set (set (set mid j no_facility) (loss_from + first_at before j % 32) (get_or (set mid j no_facility) (loss_from + first_at before j % 32) 0 + first_at before j / 32 - second_at before j / 32)) (seconds_from + j) no_facility)
    leave_put = both_put no_facility no_facility left leave_loss at_facility mid same_length shifted

    pub leave_kept : Kept m n service (set (set (set mid j no_facility) (loss_from + first_at before j % 32) (get_or (set mid j no_facility) (loss_from + first_at before j % 32) 0 + first_at before j / 32 - second_at before j / 32)) (seconds_from + j) no_facility)
    leave_kept =
        kept_change sums j client no_facility no_facility _ leave_put (le_refl no_facility) (le_refl no_facility)
        (both_room no_facility no_facility left leave_loss at_facility mid same_length)
        (both_added no_facility no_facility left leave_loss at_facility mid same_length shifted)
        (λ o l. loss_step (j * m) (first_at before j) (second_at before j) (first_at before j) (sums.ordered j client) (le_refl (first_at before j)) row (loss_enough sums j client) loss o l
        ∙ ap (λ (x : ℕ). get_or before (loss_from + o) 0 + x) (one_loss o (first_at before j) ∙ sym (one_loss o no_facility)))
        (λ o i lo li. more_step (j * m) (first_at before j) (second_at before j) (first_at before j) (sums.ordered j client) (le_refl (first_at before j)) row (loss_enough sums j client) loss o i lo li
        ∙ ap (λ (x : ℕ). get_or before (more_from + 32 * o + i) 0 + x) (one_more o (entry m service j i) (first_at before j) ∙ sym (one_more o (entry m service j i) no_facility)))
      where
        row : RowShifted service (j * m) left (second_at before j / 32) (first_at before j / 32) before (set mid j no_facility)
        row = both_row no_facility no_facility left leave_loss at_facility mid same_length shifted

        loss : LossStored left leave_loss (set mid j no_facility) (both_table no_facility no_facility left leave_loss at_facility mid same_length)
        loss = both_loss no_facility no_facility left leave_loss at_facility mid same_length

-- ---- puts

pub put_as : {j first first' second : ℕ} {before after : List ℕ} → first ≡ first' → PutAt j first second before after
    → PutAt j first' second before after
put_as e put = record { first_is = put.first_is ∙ e; second_is = put.second_is; others = put.others }

-- one after another
pub put_again : {j first second first' second' : ℕ} {before between after : List ℕ} → PutAt j first second before between
    → PutAt j first' second' between after → PutAt j first' second' before after
put_again one two =
    record {
      first_is = two.first_is;
      second_is = two.second_is;
      others =
          record {
            firsts = λ k l ne. two.others.firsts k l ne ∙ one.others.firsts k l ne;
            seconds = λ k l ne. two.others.seconds k l ne ∙ one.others.seconds k l ne;
          };
    }
