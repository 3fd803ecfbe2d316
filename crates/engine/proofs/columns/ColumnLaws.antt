-- Laws of the sums of the columns: what a turn of the loops does.
use Prim.Native.Nat.{ℕ, ◌+◌, ◌*◌, ◌≤◌, ◌<◌}
use native.Mathlib.Nat.{not-suc-le-zero}
use native.Mathlib.Omega.{arith}
use mathlib.Core.Path.{◌≡◌, refl, sym, ap, ◌∙◌}
use mathlib.Core.List.{List}
use lib.ListN.{length, get_or, set}
use lib.Seq.{get_or-set_same, get_or-set_other}
use Rattle.model.proofs.LoopLaws.{up_to}
use Rattle.model.proofs.SumLaws.{sum_none, sum_more, sum_bound}
use Rattle.model.proofs.PlaceLaws.{row_within}
use Rattle.rows.specs.Shifts.{word_end}
use Rattle.tables.specs.Bounds.{most_entry}
use Rattle.engine.specs.Bounds.{added_from, kept_length}
use Rattle.engine.specs.Rows.{Rows, entry, Addable, RowAdded, Aside, NoSums, ColumnSums}

-- ---- adding a row

module _ (service : List ℕ) (row : ℕ) (before : List ℕ) where
  pub row_added_none : RowAdded 0 service row before before
  row_added_none = record { inside = λ i l. absurd (not-suc-le-zero l); below = λ k l. refl; above = λ k l. refl }

  pub sum_small : (width i : ℕ) (kept : List ℕ) → i < width → Addable width service row before → RowAdded i service row before kept
      → get_or kept (added_from + i) 0 + get_or service (row + i) 0 < word_end
  sum_small width i kept l can done = omega (arith, can.small i l, can.costs i l, done.above (added_from + i) (omega arith))

  pub row_added_more : (i : ℕ) (kept : List ℕ) → added_from + i < length kept → RowAdded i service row before kept
      → RowAdded (i + 1) service row before (set kept (added_from + i) (get_or kept (added_from + i) 0 + get_or service (row + i) 0))
  row_added_more i kept room done =
      let r = get_or kept (added_from + i) 0 + get_or service (row + i) 0 in
      record {
        inside =
            λ a l. up_to (λ a. get_or (set kept (added_from + i) r) (added_from + a) 0 ≡ get_or before (added_from + a) 0 + get_or service (row + a) 0) i
            (λ a l. get_or-set_other kept (added_from + i) (added_from + a) r 0 (λ q. omega arith) ∙ done.inside a l)
            (get_or-set_same kept (added_from + i) r 0 room ∙ ap (λ (x : ℕ). x + get_or service (row + i) 0) (done.above (added_from + i) (omega arith)))
            a (omega arith);
        below = λ a l. get_or-set_other kept (added_from + i) a r 0 (λ q. omega arith) ∙ done.below a l;
        above = λ a l. get_or-set_other kept (added_from + i) a r 0 (λ q. omega arith) ∙ done.above a (omega arith);
      }

-- ---- adding all rows

pub aside_none : (kept : List ℕ) → Aside kept kept
aside_none kept = record { below = λ k l. refl; above = λ k l. refl }

pub aside_more : {service : List ℕ} {row : ℕ} {before kept after : List ℕ} → Aside before kept → RowAdded 32 service row kept after → Aside before after
aside_more same added =
    record {
      below = λ k l. added.below k l ∙ same.below k l;
      above = λ k l. added.above k l ∙ same.above k l;
    }

module _ (m : ℕ) (service : List ℕ) where
  pub columns_none : (kept : List ℕ) → NoSums kept → ColumnSums m 0 service kept
  columns_none kept zeros i l = zeros i l ∙ sum_none (λ j. entry m service j i)

  pub columns_ready : (n j : ℕ) (kept : List ℕ) → Rows m n service → j < n → kept_length ≤ length kept → ColumnSums m j service kept
      → Addable 32 service (j * m) kept
  columns_ready n j kept rows l room held =
      record {
        row_room = omega (arith, row_within m n j l, rows.room);
        room = omega arith;
        costs = λ i c. rows.within (j * m + i);
        small =
            λ i c. omega (
              arith,
              held i c,
              sum_bound j most_entry (λ j. entry m service j i) (λ j l. rows.within (j * m + i)),
              rows.few_clients,
            );
      }

  pub columns_more : (j : ℕ) (before after : List ℕ) → ColumnSums m j service before → RowAdded 32 service (j * m) before after
      → ColumnSums m (j + 1) service after
  columns_more j before after held added i l =
      added.inside i l ∙ ap (λ (x : ℕ). x + entry m service j i) (held i l) ∙ sym (sum_more (λ j. entry m service j i) j)
