-- `planner_open_plan` meets its contract: `search::open_plan` does, and its answers keep to their bits.
use mathlib.Core.Path.{sym, ap, subst, ◌∙◌}
use Rattle.search.specs.Promises.{NoOpenMove, BoundedByRivals}
use Rattle.refusal.specs.Numbers.{number_of}
use Rattle.numbers.specs.Numbers.{result_number, KeepsBits}
use Rattle.numbers.proofs.SaidLaws.{of_written}
use Rattle.exports.proofs.NumberLaws.{open_within}
use Rattle.exports.proofs.planner_open_plan.Goals as goal

pub returns : goal.returns
returns c = let planned = c.open_plan-open_plan in
    let sheet = c.args.sheet.now in
    let area = planned.new.area in
    let bits = subst KeepsBits (sym planned.ensures.answer) (open_within _ _) in
    record {
      answer = c.plan_number.ensures ∙ ap result_number planned.ensures.answer;
      area = planned.ensures.area;
      settled = of_written _ area (NoOpenMove sheet) number_of planned.result bits c.plan_number.ensures planned.ensures.settled;
      bounded = of_written _ area (BoundedByRivals sheet) number_of planned.result bits c.plan_number.ensures planned.ensures.bounded;
    }
