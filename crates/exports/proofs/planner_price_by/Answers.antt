-- `planner_price_by` meets its contract: `price_by::price_by` does, and its answers keep to their bits.
use mathlib.Core.Path.{◌≡◌, sym, subst}
use Rattle.refusal.specs.Numbers.{number_of}
use Rattle.numbers.specs.Numbers.{KeepsBits}
use Rattle.numbers.proofs.SaidLaws.{of_written}
use Rattle.exports.proofs.NumberByLaws.{pricing_by_within}
use Rattle.exports.proofs.planner_price_by.Goals as goal

pub returns-clause-kept : goal.returns-clause-kept
returns-clause-kept c = let priced = c.price_by-priced in
    let a = c.args in
    let bits = subst KeepsBits (sym priced.ensures.answer) (pricing_by_within _ _ _ _ _) in
    (of_written _ priced.new.area (λ kept. kept ≡ a.set) number_of priced.result bits c.plan_number.ensures priced.ensures.kept)
