-- `clients::move_to` meets its contract: with every client moved, the table is that of the next set.
use native.Mathlib.Omega.{arith}
use Rattle.engine.proofs.ClientLaws.{none_moved, none_went}
use Rattle.engine.proofs.ListedLaws.{part_room, part_listed}
use Rattle.engine.proofs.clients.move_to.Goals as goal

pub add_clients-requires : goal.add_clients-requires
add_clients-requires c = let a = c.args in
    let here = c.requires.0 in
    let moved = rw (← c.newcomer-came.ensures, ← c.newcomer-went.ensures) at c.requires.1 in (
      here.sums,
      none_moved a.service.m a.service.n a.service.costs.now a.kept.now a.set a.next here.near,
      none_went _ _ _ _ _ here.sums.rows.few_facilities c.if-went-ge-MOST_FACILITIES.true moved,
    )

pub shared_ref_as_front-list : goal.shared_ref_as_front-list
shared_ref_as_front-list c = omega (arith, part_room c.args.next c.members_of-members.result c.members_of-members.ensures)

pub move_clients-requires : goal.move_clients-requires
move_clients-requires c = let members = c.members_of-members in
    let a = c.args in
    let here = c.requires.0 in
    let moved = rw (← c.newcomer-came.ensures, ← c.newcomer-went.ensures) at c.requires.1 in (
      here.sums,
      none_moved a.service.m a.service.n a.service.costs.now a.kept.now a.set a.next here.near,
      moved,
      c.requires.2,
      part_listed a.next members.result members.ensures,
    )
