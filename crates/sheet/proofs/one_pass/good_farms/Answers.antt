use mathlib.Core.Path.{sym}
use native.Mathlib.Omega.{arith}
use Rattle.model.proofs.Bools.{said_no, said_yes}
use Rattle.model.proofs.LoopLaws.{all_none, all_more, all_stops}
use Rattle.sheet.proofs.HaulLaws.{filled_none}
use Rattle.sheet.proofs.one_pass.good_farms.Goals as goal

pub loop-p-init : goal.loop-p-init
loop-p-init c = (all_none _, filled_none c.args.sheet.now c.args.m c.requires.1)

pub returns-then-not-good_farm-clause-good : goal.returns-then-not-good_farm-clause-good
returns-then-not-good_farm-clause-good c =
    sym (all_stops _ _ c.loop-p.p (omega arith) (said_no c.good_farm.ensures.good c.if-not-good_farm.true))

pub loop-p-preserved : goal.loop-p-preserved
loop-p-preserved c = (
  all_more _ _ c.loop-p.invariant.0 (said_yes c.good_farm.ensures.good c.if-not-good_farm.false),
  c.good_farm.ensures.filled c.if-not-good_farm.false,
)
