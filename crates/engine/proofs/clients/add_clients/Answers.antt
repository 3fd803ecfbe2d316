use Prim.Native.Nat.{ℕ}
use native.Mathlib.Nat.{le_refl}
use mathlib.Core.Path.{◌≡◌, refl, subst, ◌∙◌}
use native.Mathlib.Omega.{arith}
use Rattle.engine.specs.Sums.{NearFrom}
use Rattle.engine.proofs.ClientLaws.{moved_more}
use Rattle.engine.proofs.clients.add_clients.Goals as goal

pub loop-j-init : goal.loop-j-init
loop-j-init c = (c.requires.0, c.requires.1, refl)

pub add_client-requires : goal.add_client-requires
add_client-requires c = let l = c.loop-j in
    (l.invariant.0, omega arith, l.invariant.1.waiting l.j (le_refl l.j) (omega arith), c.requires.2)

pub loop-j-preserved : goal.loop-j-preserved
loop-j-preserved c = let l = c.loop-j in
    let a = c.args in
    let e = c.add_client.ensures in (
      e.kept,
      moved_more a.service.m a.service.costs.now l.kept _ l.j a.service.n l.invariant.0.rows.few_clients (omega arith) e.others a.set a.next
          l.invariant.1 e.near,
      c.add_client.auto.kept ∙ l.invariant.2,
    )

pub returns : goal.returns
returns c = let l = c.loop-j in
    let a = c.args in
    let e : l.j ≡ a.service.n = omega arith in
    record { kept = l.invariant.0; near = subst (λ (j : ℕ). NearFrom a.service.m a.service.n a.service.costs.now l.kept a.set a.next j) e l.invariant.1 }
