-- `pairs::keeps` meets its contract: what units settle keeps the rule.
use mathlib.Core.Path.{sym, ◌∙◌}
use native.Mathlib.Omega.{arith}
use Rattle.four_point.proofs.RoundedLaws.{costs_below_lem, units_below, settled_keeps}
use Rattle.four_point.proofs.pairs.keeps.Goals as goal

pub pair_settled-requires : goal.pair_settled-requires
pair_settled-requires c = let r = c.requires.0 in (
  omega (arith, r.few_clients, r.units_room),
  omega (arith, r.few_clients, r.units_room),
  units_below _ _ _ _ r c.args.a (omega arith),
  units_below _ _ _ _ r c.args.b (omega arith),
)

pub returns-then-pair_settled : goal.returns-then-pair_settled
returns-then-pair_settled c = sym (settled_keeps _ _ _ _ c.requires.0 c.args.a c.args.b (omega arith) (omega arith) (sym c.pair_settled.ensures ∙ c.if-pair_settled.true))

pub pair_keeps-requires : goal.pair_keeps-requires
pair_keeps-requires c = let r = c.requires.0 in (
  omega (arith, r.few_clients, r.room),
  omega (arith, r.few_clients, r.room),
  costs_below_lem _ _ _ _ r c.args.a (omega arith),
  costs_below_lem _ _ _ _ r c.args.b (omega arith),
)
