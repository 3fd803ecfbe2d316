use native.Mathlib.Nat.{le_refl}
use mathlib.Core.Path.{◌≡◌, refl, ◌∙◌}
use native.Mathlib.Omega.{arith}
use Rattle.engine.proofs.ClientLaws.{begun_more}
use Rattle.engine.proofs.ListedLaws.{part_room, part_listed}
use Rattle.engine.proofs.clients.begin.Goals as goal

pub shared_ref_as_front-list : goal.shared_ref_as_front-list
shared_ref_as_front-list c = omega (arith, part_room c.args.set c.members_of-members.result c.members_of-members.ensures)

pub loop-j-init : goal.loop-j-init
loop-j-init c = (c.requires.0, c.requires.1, refl)

pub begin_client-requires : goal.begin_client-requires
begin_client-requires c = let l = c.loop-j in
    let members = c.members_of-members in (
      l.invariant.0,
      omega arith,
      l.invariant.1.waiting l.j (le_refl l.j) (omega arith),
      c.requires.2,
      part_listed c.args.set members.result members.ensures,
    )

pub loop-j-preserved : goal.loop-j-preserved
loop-j-preserved c = let l = c.loop-j in
    let a = c.args in
    let e = c.begin_client.ensures in (
      e.kept,
      begun_more a.service.m a.service.costs.now l.kept _ l.j a.service.n l.invariant.0.rows.few_clients (omega arith) e.others a.set
          l.invariant.1 e.near,
      c.begin_client.auto.kept ∙ l.invariant.2,
    )

pub returns : goal.returns
returns c = let l = c.loop-j in
    let e : l.j ≡ c.args.service.n = omega arith in
    record {
      sums = l.invariant.0;
      near = λ j below. l.invariant.1.begun j (omega (arith, e, below));
      below = c.requires.2;
      some = c.requires.3;
    }
