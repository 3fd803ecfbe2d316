-- `nearest_yard` meets its contract: the yards of the set are listed.
use native.Mathlib.Omega.{arith}
use mathlib.Core.Path.{◌∙◌}
use Rattle.sets.proofs.MemberLaws.{part_is}
use Rattle.nearest.proofs.ChoiceLaws.{near_listed}
use Rattle.nearest.proofs.nearest_yard.Goals as goal

pub returns : goal.returns
returns c = c.nearest_listed.ensures
    ∙ near_listed c.args.fees.now c.args.hauls.now c.args.set _ (omega (arith, c.ranges.set)) (c.yards.ensures ∙ part_is _ _ _ c.members_of-open.ensures)
