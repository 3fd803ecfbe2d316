-- `search_on` meets its contract: the search on the copies is that on the tables.
use Rattle.tables.proofs.LentTableLaws.{good_when}
use Rattle.engine.proofs.ClientLaws.{none_begun}
use Rattle.engine.proofs.CopiedTableLaws.{blank, same_found}
use Rattle.engine.proofs.FoundLaws.{begins_well}
use Rattle.engine.proofs.search_on.Goals as goal

pub prepare-requires : goal.prepare-requires
prepare-requires c = (c.requires.0, blank)

pub first_set-first-requires : goal.first_set-first-requires
first_set-first-requires c = let a = c.args in
    let done = c.prepare.ensures in
    ((good_when a.m a.n a.opening.now a.service.now c.requires.0).some_facility, done.sums.room, done.columns)

pub descend-requires : goal.descend-requires
descend-requires c = let a = c.args in
    let done = c.prepare.ensures in
    let some = (good_when a.m a.n a.opening.now a.service.now c.requires.0).some_facility in
    let first = c.first_set-first in
    let begins = begins_well a.start a.m a.n _ _ some c.requires.1 first.result first.ensures in
    (done.sums, none_begun a.m a.n _ _ first.result done.waiting, begins.0, begins.1)

pub returns : goal.returns
returns c = let a = c.args in
    let first = c.first_set-first in
    same_found a.m a.n a.opening.now a.service.now _ _ _ c.prepare.ensures a.moves a.start a.limit first.result _ first.ensures c.descend.ensures
