use mathlib.Core.Path.{◌≡◌, sym, subst}
use Prim.Native.Nat.{ℕ, ◌+◌}
use native.Mathlib.Omega.{arith}
use Rattle.plan_set.proofs.OpenedLaws.{Shows, shows_none, shows_more, shows_is}
use Rattle.plan_set.proofs.opened_by.Goals as goal

pub loop-i-init : goal.loop-i-init
loop-i-init c = shows_none _

pub with_record-set-requires : goal.with_record-set-requires
with_record-set-requires c = omega (arith, c.requires)

pub loop-i-preserved : goal.loop-i-preserved
loop-i-preserved c = let l = c.loop-i in
    let area = c.args.area.now in
    subst (λ (x : ℕ). Shows area (l.i + 1) x) (sym c.with_record-set.ensures) (shows_more area l.i l.set l.invariant)

pub returns : goal.returns
returns c = let l = c.loop-i in
    let e : l.i ≡ c.args.n = omega arith in
    shows_is _ _ _ (rw e at l.invariant)
