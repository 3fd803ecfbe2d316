-- `plan_set` meets its contract: the records among the bytes asked for, or among all.
use mathlib.Core.Path.{ap, ◌∙◌}
use Rattle.plan_area.specs.Plan.{plan_set}
use Rattle.plan_set.specs.Opened.{opened_by}
use Rattle.plan_set.proofs.plan_set.Goals as goal

pub returns : goal.returns
unfolding opened_by plan_set
returns c = c.opened_by.ensures ∙ ap (plan_set c.args.area.now) c.min.ensures
