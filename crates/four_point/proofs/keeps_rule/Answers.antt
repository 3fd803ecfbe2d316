-- `keeps_rule` meets its contract: each return is a case of `keeps_rule`.
use Prim.Native.Nat.{ℕ, ◌*◌}
use mathlib.Core.Path.{sym, ◌∙◌}
use native.Mathlib.Omega.{arith}
use lib.ListN.{length-replicate}
use Rattle.model.proofs.Bools.{fails}
use Rattle.four_point.specs.Table.{row_places, most_facilities}
use Rattle.four_point.proofs.TableLaws.{costs_low, many_facilities, many_clients, rows_missing, cost_too_high, every_pair}
use Rattle.four_point.proofs.RoundedLaws.{below_limit, low_costs, rounded_of}
use Rattle.four_point.proofs.keeps_rule.Goals as goal

pub returns-then-facilities-gt-MOST_FACILITIES : goal.returns-then-facilities-gt-MOST_FACILITIES
returns-then-facilities-gt-MOST_FACILITIES c = sym (many_facilities _ _ _ c.if-facilities-gt-MOST_FACILITIES.true)

pub returns-then-clients-gt-ROW_PLACES : goal.returns-then-clients-gt-ROW_PLACES
returns-then-clients-gt-ROW_PLACES c = sym (many_clients _ _ _ c.if-facilities-gt-MOST_FACILITIES.false c.if-clients-gt-ROW_PLACES.true)

pub returns-then-table-facilities : goal.returns-then-table-facilities
returns-then-table-facilities c = sym (rows_missing _ _ _ c.if-facilities-gt-MOST_FACILITIES.false c.if-clients-gt-ROW_PLACES.false (omega arith))

pub returns-then-round-ne0 : goal.returns-then-round-ne0
returns-then-round-ne0 c = sym (cost_too_high _ _ _ c.if-facilities-gt-MOST_FACILITIES.false c.if-clients-gt-ROW_PLACES.false c.if-table-facilities.false
    (fails (λ low. c.if-round-ne0.true (c.round.ensures.above ∙ low_costs _ _ low))))

pub every_pair-requires : goal.every_pair-requires
every_pair-requires c = rounded_of _ _ _ _ c.if-facilities-gt-MOST_FACILITIES.false c.if-clients-gt-ROW_PLACES.false c.if-table-facilities.false
    (omega (arith, c.round.auto.units, length-replicate {A = ℕ} (most_facilities * row_places) 0))
    (sym c.round.ensures.above ∙ c.if-round-ne0.false) c.round.ensures.units

pub returns : goal.returns
returns c = c.every_pair.ensures
    ∙ every_pair _ _ _ c.if-facilities-gt-MOST_FACILITIES.false c.if-clients-gt-ROW_PLACES.false c.if-table-facilities.false
    (costs_low _ _ (below_limit _ _ (sym c.round.ensures.above ∙ c.if-round-ne0.false)))
