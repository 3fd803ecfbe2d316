use native.Mathlib.Omega.{arith}
use Rattle.nearest.proofs.ChoiceLaws.{none_listed, next_listed, none_found, one_found}
use Rattle.nearest.proofs.nearest_listed.Goals as goal

pub loop-yard-init : goal.loop-yard-init
loop-yard-init c = let a = c.args in
    none_listed a.fees.now a.hauls.now a.yards.now

pub loop-yard-preserved : goal.loop-yard-preserved
loop-yard-preserved c = let chosen = c.choice_of.ensures in
    let a = c.args in
    let l = c.loop-yard in
    next_listed a.fees.now a.hauls.now a.yards.now l.yard-index _ _ _ chosen.small.0 chosen.choice chosen.small.1 c.nearer_of-best.ensures l.invariant

pub returns-then-best-eq-NO_YARD : goal.returns-then-best-eq-NO_YARD
returns-then-best-eq-NO_YARD c = let a = c.args in
    let l = c.loop-yard in
    none_found a.fees.now a.hauls.now a.yards.now l.yard-index (omega arith) l.best c.if-best-eq-NO_YARD.true l.invariant

pub returns : goal.returns
returns c = let a = c.args in
    let l = c.loop-yard in
    one_found a.fees.now a.hauls.now a.yards.now l.yard-index (omega arith) l.best c.if-best-eq-NO_YARD.false l.invariant
