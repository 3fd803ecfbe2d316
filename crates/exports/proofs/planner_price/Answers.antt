-- `planner_price` meets its contract: `price::price` does, and its answers keep to their bits.
use mathlib.Core.Path.{◌≡◌, sym, subst}
use Rattle.refusal.specs.Numbers.{number_of}
use Rattle.numbers.specs.Numbers.{KeepsBits}
use Rattle.numbers.proofs.SaidLaws.{of_written}
use Rattle.exports.proofs.NumberLaws.{pricing_within}
use Rattle.exports.proofs.planner_price.Goals as goal

pub returns-clause-kept : goal.returns-clause-kept
returns-clause-kept c = let priced = c.price-priced in
    let bits = subst KeepsBits (sym priced.ensures.answer) (pricing_within _ _ _) in
    of_written _ priced.new.area (λ kept. kept ≡ c.args.set) number_of priced.result bits c.plan_number.ensures priced.ensures.kept
