-- `planner_limited_plan` meets its contract: `search::limited_plan` does, and its answers keep to their bits.
use mathlib.Core.Path.{sym, ap, subst, ◌∙◌}
use Rattle.search.specs.Promises.{OfSize, NoLimitedMove, BoundedByRivalsOf}
use Rattle.refusal.specs.Numbers.{number_of}
use Rattle.numbers.specs.Numbers.{result_number, KeepsBits}
use Rattle.numbers.proofs.SaidLaws.{of_written}
use Rattle.exports.proofs.NumberLaws.{limited_within}
use Rattle.exports.proofs.planner_limited_plan.Goals as goal

pub returns : goal.returns
returns c = let planned = c.limited_plan-limited_plan in
    let sheet = c.args.sheet.now in
    let area = planned.new.area in
    let bits = subst KeepsBits (sym planned.ensures.answer) (limited_within _ _ _) in
    record {
      answer = c.plan_number.ensures ∙ ap result_number planned.ensures.answer;
      area = planned.ensures.area;
      sized = of_written _ area (OfSize sheet c.args.k) number_of planned.result bits c.plan_number.ensures planned.ensures.sized;
      settled = of_written _ area (NoLimitedMove sheet) number_of planned.result bits c.plan_number.ensures planned.ensures.settled;
      bounded = of_written _ area (BoundedByRivalsOf sheet c.args.k) number_of planned.result bits c.plan_number.ensures planned.ensures.bounded;
    }
