-- `planner_limited_plan_by` meets its contract: `by_tariff::limited_plan_by` does, and its answers keep to their bits.
use mathlib.Core.Path.{sym, ap, subst, ◌∙◌}
use Rattle.search.specs.Promises.{OfSize, NoLimitedMove, BoundedByRivalsOf}
use Rattle.refusal.specs.Numbers.{number_of}
use Rattle.numbers.specs.Numbers.{result_number, KeepsBits}
use Rattle.exports.proofs.NumberByLaws.{limited_by_within, of_written_by}
use Rattle.exports.proofs.planner_limited_plan_by.Goals as goal

pub returns : goal.returns
returns c = let planned = c.limited_plan_by-limited_plan in
    let k = c.args.k in
    let area = planned.new.area in
    let bits = subst KeepsBits (sym planned.ensures.answer) (limited_by_within _ _ _ _ _) in
    record {
      answer = rw (← c.choice_of.ensures) (c.plan_number.ensures ∙ ap result_number planned.ensures.answer);
      area = rw (← c.choice_of.ensures) planned.ensures.area;
      sized = rw (← c.choice_of.ensures) (of_written_by _ _ _ _ area (λ h. OfSize h k) number_of planned.result bits c.plan_number.ensures planned.ensures.sized);
      settled = rw (← c.choice_of.ensures) (of_written_by _ _ _ _ area NoLimitedMove number_of planned.result bits c.plan_number.ensures planned.ensures.settled);
      bounded = rw (← c.choice_of.ensures) (of_written_by _ _ _ _ area (λ h. BoundedByRivalsOf h k) number_of planned.result bits c.plan_number.ensures planned.ensures.bounded);
    }
