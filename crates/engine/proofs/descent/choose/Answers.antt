-- `descent::choose` meets its contract: where the search stands, the tables price every move, and the one taken is the model's.
use native.Mathlib.Omega.{arith}
use Rattle.engine.proofs.MovePriceLaws.{adding}
use Rattle.engine.proofs.ListedLaws.{part_room, part_listed}
use Rattle.engine.proofs.descent.NextSetLaws.{listed_within, openings_are, moves_lent, chosen}
use borrow.Author.Rules.{rules}
use Rattle.engine.proofs.descent.choose.Goals as goal

pub shared_ref_as_front-list : goal.shared_ref_as_front-list
shared_ref_as_front-list c = omega (arith, part_room c.args.b.set c.members_of-members.result c.members_of-members.ensures)

pub openings_of-opened-requires : goal.openings_of-opened-requires
openings_of-opened-requires c = let members = c.members_of-members in
    let a = c.args in
    listed_within a.tables.service.m a.tables.service.n a.tables.opening.now a.tables.service.costs.now a.b _ c.requires.0 a.tables.openings
    _ (part_listed a.b.set members.result members.ensures)

pub add_up-requires : goal.add_up-requires
add_up-requires c = let members = c.members_of-members in
    let a = c.args in
    let opened-is = openings_are a.tables.service.m a.tables.service.n a.tables.opening.now a.tables.service.costs.now a.b _ c.requires.0 a.tables.openings
    _ (part_listed a.b.set members.result members.ensures) _ c.openings_of-opened.ensures in
    adding a.tables.service.m a.tables.service.n a.tables.opening.now a.tables.service.costs.now a.b.set _ c.requires.0 _ _ a.tables.openings opened-is (search rules)

pub best_move-requires : goal.best_move-requires
best_move-requires c = let opened = c.openings_of-opened in
    let members = c.members_of-members in
    let a = c.args in
    moves_lent a.tables.service.m a.tables.service.n a.tables.opening.now a.tables.service.costs.now a.b _ c.requires.0 a.tables.openings
    _ (part_listed a.b.set members.result members.ensures) _ _ opened.ensures c.add_up.ensures (search rules) c.requires.1

pub returns : goal.returns
returns c = let opened = c.openings_of-opened in
    let members = c.members_of-members in
    let a = c.args in
    chosen a.tables.service.m a.tables.service.n a.tables.opening.now a.tables.service.costs.now a.b _ c.requires.0 a.tables.openings
    _ (part_listed a.b.set members.result members.ensures) _ _ opened.ensures c.add_up.ensures (search rules) c.requires.1
    _ _ c.best_move.ensures
