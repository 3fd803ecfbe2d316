use native.Mathlib.Omega.{arith}
use mathlib.Core.Path.{◌≡◌, sym, ◌∙◌}
use mathlib.Core.Bool.{true}
use Rattle.model.proofs.Bools.{said_no, said_yes}
use Rattle.model.proofs.LoopLaws.{leading_none, leading_more, leading_stops}
use Rattle.engine.specs.Near.{new_in}
use Rattle.engine.proofs.MovedLaws.{old, new_stops, old_in, old_out}
use Rattle.engine.proofs.near.newcomer.Goals as goal
use Rattle.engine.proofs.near.newcomer.Goals.{else-has-via-then-has+else-not-has, else-has-via-else-has}

pub loop-i-init : goal.loop-i-init
loop-i-init c = leading_none _

pub returns-then-not-has : goal.returns-then-not-has
unfolding new_in
returns-then-not-has c = let l = c.loop-i in
    let a = c.args in
    sym (leading_stops (old a.before a.after) 32 l.i l.invariant c.loop-i-test.true
    (new_stops a.before a.after l.i (sym c.has.ensures ∙ c.if-has.true) (said_no c.has-then-has.ensures c.if-not-has.true)))

pub loop-i-preserved : goal.loop-i-preserved
loop-i-preserved c = let l = c.loop-i in
    let a = c.args in
    let passes : old a.before a.after l.i ≡ true = elim c.else-has.branch [
      | else-has-via-then-has+else-not-has w ↦ old_in a.before a.after l.i (said_yes w.has-then-has.ensures w.if-not-has.false)
      | else-has-via-else-has w ↦ old_out a.before a.after l.i (sym c.has.ensures ∙ w.if-has.false)
    ] in
    (leading_more (old a.before a.after) l.i l.invariant passes)

pub returns : goal.returns
unfolding new_in
returns c = let e : c.loop-i.i ≡ 32 = omega arith in
    sym (rw e at c.loop-i.invariant)
