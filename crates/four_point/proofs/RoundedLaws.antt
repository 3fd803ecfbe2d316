-- Costs in units: whether all are below their limit, and what units settle.
-- Idea: a difference is less than a unit above that in units, and a sum at least that in units.
use Prim.Native.Nat.{ℕ, ◌+◌, ◌-◌, ◌*◌, ◌/◌, ◌%◌, ◌≤◌, ◌<◌}
use native.Mathlib.Nat.{not-suc-le-zero}
use native.Mathlib.Omega.{arith}
use mathlib.Core.Path.{◌≡◌, refl, sym, ap, ◌∙◌}
use mathlib.Core.Bool.{true}
use mathlib.Core.List.{List}
use borrow.Author.Tests.{ltb-true}
use lib.ListN.{length, get_or, set}
use lib.Dec.{ltb}
use Rattle.model.specs.QuickMetric.{spread, route_from}
use Rattle.model.proofs.LoopLaws.{all_at}
use Rattle.model.proofs.PlaceLaws.{front_more}
use Rattle.model.proofs.SumLaws.{sum_none, sum_more, sum_cong, sum_zero, sum_term}
use Rattle.model.proofs.QuickMetricLaws.{rule_quick, from_at, spread_at}
use Rattle.four_point.specs.Table.{row_places, most_facilities, cost_limit, row, costs_below}
use Rattle.four_point.specs.Rounded.{unit, unit_limit, InUnits, above_limit, RowBelow, Rounded, pair_settled, pair_keeps}

-- ---- rounding, place by place

pub in_units_none : (table units : List ℕ) → InUnits 0 table units
in_units_none table units k l = absurd (not-suc-le-zero l)

pub in_units_more : (k : ℕ) (table units : List ℕ) → k < length units → InUnits k table units
    → InUnits (k + 1) table (set units k (get_or table k 0 / unit % unit_limit))
in_units_more k table units room before = front_more (λ j. get_or table j 0 / unit % unit_limit) k _ units room refl before

-- ---- the limit

pub above_none : (table : List ℕ) → 0 ≡ above_limit table 0
unfolding above_limit
above_none table = sum_none (λ k. get_or table k 0 / cost_limit)

pub above_more : (table : List ℕ) (k before : ℕ) → before ≡ above_limit table k → before + get_or table k 0 / cost_limit ≡ above_limit table (k + 1)
unfolding above_limit
above_more table k before e = ap (λ b. b + get_or table k 0 / cost_limit) e ∙ sym (sum_more (λ k. get_or table k 0 / cost_limit) k)

pub below_limit : (table : List ℕ) (count : ℕ) → above_limit table count ≡ 0 → (k : ℕ) → k < count → get_or table k 0 < cost_limit
unfolding above_limit
below_limit table count none k l = omega (arith, sum_term count (λ k. get_or table k 0 / cost_limit) k l)

pub low_costs : (table : List ℕ) (m : ℕ) → costs_below table m ≡ true → above_limit table (row_places * m) ≡ 0
unfolding costs_below above_limit
low_costs table m e =
    sum_cong (row_places * m) (λ k l. let b = ltb-true (get_or table k 0) cost_limit (all_at (λ k. ltb (get_or table k 0) cost_limit) (row_places * m) k e l) in omega arith)
    ∙ sum_zero (row_places * m)

-- ---- what is required of the rows

pub rounded_of : (m n : ℕ) (table units : List ℕ) → m ≤ most_facilities → n ≤ row_places → row_places * m ≤ length table → row_places * m ≤ length units
    → above_limit table (row_places * m) ≡ 0 → InUnits (row_places * m) table units → Rounded m n table units
rounded_of m n table units few_facilities few_clients room units_room none in_units =
    record {
      few_facilities = few_facilities;
      few_clients = few_clients;
      room = room;
      units_room = units_room;
      low = below_limit table (row_places * m) none;
      in_units = λ k l. omega (arith, in_units k l, below_limit table (row_places * m) none k l);
    }

module _ (m n : ℕ) (table units : List ℕ) (r : Rounded m n table units) (a : ℕ) (within : a < m) where
  pub costs_below_lem : RowBelow cost_limit table n a
  costs_below_lem p l = r.low (row_places * a + p) (omega (arith, r.few_clients))

  pub in_units_at : (p : ℕ) → p < n → row units a p ≡ row table a p / unit
  in_units_at p l = r.in_units (row_places * a + p) (omega (arith, r.few_clients))

  pub units_below : RowBelow unit_limit units n a
  units_below p l = omega (arith, in_units_at p l, costs_below_lem p l)

-- ---- what units settle

pub settled_keeps : (m n : ℕ) (table units : List ℕ) (r : Rounded m n table units) (a b : ℕ) → a < m → b < m
    → pair_settled units n a b ≡ true → pair_keeps table n a b ≡ true
unfolding pair_settled pair_keeps
settled_keeps m n table units r a b a_within b_within e =
    rule_quick n (row table a) (row table b) (λ p q lp lq. omega (
      arith,
      ltb-true (spread n (row units a) (row units b)) (route_from (2 * unit_limit - 1) n (row units a) (row units b)) e,
      from_at (2 * unit_limit - 1) n p (row units a) (row units b) lp,
      spread_at n (row units a) (row units b) q lq,
      in_units_at m n table units r a a_within p lp,
      in_units_at m n table units r b b_within p lp,
      in_units_at m n table units r a a_within q lq,
      in_units_at m n table units r b b_within q lq,
    ))
