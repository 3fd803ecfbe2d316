-- One pass over the clients of two rows x and y whose entries are below a limit: the cheapest route and the greatest difference so far.
use Prim.Native.Nat.{ℕ, ◌+◌, ◌-◌, ◌*◌, ◌≤◌, ◌<◌, min, max}
use native.Mathlib.Omega.{arith}
use mathlib.Core.Path.{◌≡◌, sym, ap, ap₂, ◌∙◌}
use mathlib.Core.List.{List, map}
use lib.ListN.{length, get_or}
use Rattle.std.proofs.lemmas.List.{get_or-map}
use Rattle.model.specs.QuickMetric.{apart, spread, route_from}
use Rattle.four_point.specs.Table.{row_places, row}
use Rattle.four_point.specs.Rounded.{RowBelow}
use Rattle.model.proofs.QuickMetricLaws.{spread_none, spread_more, spread_bound, from_none, from_more, from_below}

-- u and v are the p-th entries of the rows, and below the limit
pub record Entries (limit : ℕ) (x y : ℕ → ℕ) (p u v : ℕ) : Type 0 where
  pub first : u ≡ x p
  pub second : v ≡ y p
  pub first_low : u < limit
  pub second_low : v < limit

-- what is read at the p-th client's place of a row
row_at : {C : Type 0} (value : C → ℕ) (table : List C) (n a p : ℕ) (u : C) → row_places * a + n ≤ length table → p < n
    → u ≡ get_or table (row_places * a + p) u → value u ≡ row (map value table) a p
row_at value table n a p u room l read = ap value read ∙ sym (get_or-map value table (row_places * a + p) u 0 (omega arith))

pub entries : {C : Type 0} (limit : ℕ) (value : C → ℕ) (table : List C) (n a b p : ℕ) (u v : C)
    → row_places * a + n ≤ length table → row_places * b + n ≤ length table
    → RowBelow limit (map value table) n a → RowBelow limit (map value table) n b → p < n
    → u ≡ get_or table (row_places * a + p) u → v ≡ get_or table (row_places * b + p) v
    → Entries limit (row (map value table) a) (row (map value table) b) p (value u) (value v)
entries limit value table n a b p u v a_room b_room a_low b_low l u_read v_read =
    let first = row_at value table n a p u a_room l u_read in
    let second = row_at value table n b p v b_room l v_read in
    record { first = first; second = second; first_low = omega (arith, a_low p l); second_low = omega (arith, b_low p l) }

-- r and s after p clients
pub record Passed (limit : ℕ) (x y : ℕ → ℕ) (p r s : ℕ) : Type 0 where
  pub cheapest : r ≡ route_from (2 * limit - 1) p x y
  pub greatest : s ≡ spread p x y

module _ (limit : ℕ) (x y : ℕ → ℕ) where
  pub passed_none : (r s : ℕ) → r ≡ 2 * limit - 1 → s ≡ 0 → Passed limit x y 0 r s
  passed_none r s r_is s_is =
      record { cheapest = r_is ∙ from_none (2 * limit - 1) x y; greatest = s_is ∙ spread_none x y }

  -- a turn, with what its calls answer: the way there and back, the greater and the lesser of the two entries, their difference
  pub passed_more : (p r s u v way high low d r' s' : ℕ) → Passed limit x y p r s → Entries limit x y p u v
      → way ≡ u + v → r' ≡ min way r → high ≡ max u v → low ≡ min u v → d ≡ high - low → s' ≡ max d s → Passed limit x y (p + 1) r' s'
  passed_more p r s u v way high low d r' s' before e way_is route_is high_is low_is d_is spread_is =
      record {
        cheapest = from_more (2 * limit - 1) x y p r r' before.cheapest (rw (← e.first, ← e.second, ← way_is) route_is);
        greatest = spread_more x y p d s s' before.greatest (d_is ∙ ap₂ ◌-◌ high_is low_is ∙ ap₂ apart e.first e.second) spread_is;
      }

  pub passed_low : (n p r s : ℕ) → 1 ≤ limit → p ≤ n → ((q : ℕ) → q < n → x q < limit) → ((q : ℕ) → q < n → y q < limit)
      → Passed limit x y p r s → (r < 2 * limit) × (s < 2 * limit)
  passed_low n p r s some within x_low y_low before = (
    omega (arith, before.cheapest, from_below (2 * limit - 1) p x y),
    omega (arith, before.greatest, spread_bound p x y limit (λ q l. omega (arith, x_low q (omega arith), y_low q (omega arith)))),
  )
