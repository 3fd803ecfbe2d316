-- Laws of a single facility: alone it serves every client, so what it costs is its opening cost and the sum of its column.
use Prim.Native.Nat.{ℕ, ◌+◌, ◌*◌, ◌^◌, ◌≤◌, ◌<◌}
use native.Mathlib.Omega.{arith}
use mathlib.Core.Path.{◌≡◌, refl, sym, ap, fun_ext, ◌∙◌}
use mathlib.Core.Bool.{Bool, false, or-false}
use mathlib.Core.List.{List}
use lib.Dec.{eqb}
use lib.ListN.{get_or}
use Rattle.model.specs.Sets.{member, plus}
use Rattle.model.specs.TwoLeast.{Two, packed}
use Rattle.model.specs.Instance.{Instance, nearest, opening_cost, service_cost, total_cost}
use Rattle.model.specs.Plans.{open_cost}
use Rattle.model.proofs.SumLaws.{sum_cong, sum_zero, sum_bound}
use Rattle.model.proofs.SetLaws.{with_none, member_single}
use Rattle.model.proofs.TwoLeastLaws.{two_none, two_skip}
use Rattle.model.proofs.CostLaws.{opening_plus}
use Rattle.model.proofs.NearestChangeLaws.{nearest_two, nearest_with}
use Rattle.sets.specs.Within.{with32}
use Rattle.sets.proofs.WithinLaws.{with32_below}
use Rattle.rows.specs.Shifts.{word_end}
use Rattle.tables.specs.Bounds.{most_entry}
use Rattle.tables.specs.Tables.{tabled, table_cost}
use Rattle.tables.proofs.LentTableLaws.{service_sum}
use Rattle.engine.specs.Bounds.{no_facility, most_served, added_from}
use Rattle.engine.specs.Tables.{Openings}
use Rattle.engine.specs.Rows.{entry, Rows, ColumnSums}
use Rattle.engine.specs.Moves.{priced, cheaper}
use Rattle.engine.specs.declared.moves.Priced.{Priced}
use Rattle.engine.proofs.MoveLaws.{set_of, prices, cheaper_is_better}
use Rattle.engine.proofs.DescentLaws.{Cheapest, cheapest_one, cheapest_more}

-- no facility
none : ℕ → Bool
none k = false

module _ (m n : ℕ) (opening service kept : List ℕ) (rows : Rows m n service) (columns : ColumnSums m n service kept) where
  abbrev I : Instance
  I = tabled m n opening service

  -- nothing is there to be the nearest
  none_near : (j : ℕ) → (nearest_two I most_entry j none).first ≡ no_facility
  unfolding none
  none_near j =
      ap (λ (t : Two). t.first)
      (two_skip no_facility 0 I.facilities none (packed (λ i. I.service i j)) (omega arith) (λ x a b. refl)
      ∙ sym (two_none no_facility none (packed (λ i. I.service i j))))

  nothing_opened : opening_cost I none ≡ 0
  unfolding opening_cost none
  nothing_opened = sum_zero I.facilities

  module _ (i : ℕ) (facility : i < m) where
    serves : (j : ℕ) → nearest I (plus none i) j ≡ entry m service j i
    unfolding tabled none
    serves j =
        let with_i = nearest_with I most_entry j rows.few_facilities (λ k l. rows.within (j * m + k)) none i facility refl in
        omega (arith, with_i, none_near j, rows.within (j * m + i))

    served_alone : service_cost I (plus none i) ≡ get_or kept (added_from + i) 0
    served_alone =
        sym (service_sum m n opening service (plus none i))
        ∙ (sum_cong n (λ j l. serves j) ∙ sym (columns i (omega (arith, rows.few_facilities))))

    opened_alone : opening_cost I (plus none i) ≡ get_or opening i 0
    unfolding tabled none
    opened_alone = omega (arith, opening_plus I none i facility refl, nothing_opened)

    single : member (2 ^ i) ≡ plus none i
    unfolding none
    single = fun_ext (λ k. member_single i k ∙ sym (or-false (eqb i k)))

    pub alone_cost : table_cost m n opening service (2 ^ i) ≡ get_or opening i 0 + get_or kept (added_from + i) 0
    unfolding table_cost open_cost total_cost
    alone_cost =
        ap (λ (S : ℕ → Bool). opening_cost I S + service_cost I S) single ∙ omega (arith, opened_alone, served_alone)

  -- the sums are small
  column_small : (i : ℕ) → i < 32 → get_or kept (added_from + i) 0 ≤ most_served
  column_small i l =
      omega (arith, columns i l, sum_bound n most_entry (λ j. entry m service j i) (λ j l. rows.within (j * m + i)), rows.few_clients)

  pub alone_fits : Openings m opening → (i : ℕ) → i < m → get_or opening i 0 + get_or kept (added_from + i) 0 < word_end
  alone_fits opened i l = omega (arith, opened.small i l, column_small i (omega (arith, rows.few_facilities)))

  -- ---- the cheapest of the facilities passed

  abbrev cost : ℕ → ℕ
  cost = table_cost m n opening service

  pub alone_first : (k : ℕ) → 0 < m → k ≡ get_or opening 0 0 + get_or kept added_from 0 → Cheapest cost (record { set = 1; cost = k }) 1
  alone_first k some e = cheapest_one cost (record { set = 1; cost = k }) (prices cost 1 k (e ∙ sym (alone_cost 0 some)))

  -- a turn, with what its calls answer
  pub alone_more : (i x k : ℕ) (b r : Priced) → 1 ≤ i → i < m → Cheapest cost b i → x ≡ with32 0 i
      → k ≡ get_or opening i 0 + get_or kept (added_from + i) 0 → r ≡ cheaper x k b → Cheapest cost r (i + 1)
  alone_more i x k b r some facility e x_is k_is h =
      let few : i < 32 = omega (arith, rows.few_facilities) in
      let single : x ≡ 2 ^ i = x_is ∙ with32_below 0 i few ∙ with_none i in
      let right = e ∙ ap (priced cost) (sym (set_of cost b _ e)) in
      cheapest_more cost i x b r some few e x_is (h ∙ cheaper_is_better cost x b k right (k_is ∙ sym (alone_cost i facility) ∙ ap cost (sym single)))
