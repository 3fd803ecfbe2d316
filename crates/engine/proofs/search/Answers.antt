-- `search` meets its contract.
use mathlib.Core.Path.{ap}
use Rattle.std.specs.Prelude.{Some}
use Rattle.model.proofs.Bools.{said_no, said_yes}
use Rattle.tables.proofs.LentTableLaws.{good_when}
use Rattle.engine.specs.SearchOnTables.{searching}
use Rattle.engine.proofs.search.Goals as goal

pub returns-then-not-tables_good : goal.returns-then-not-tables_good
unfolding searching
returns-then-not-tables_good c = rw (said_no c.tables_good.ensures c.if-not-tables_good.true)

pub start_good-requires : goal.start_good-requires
start_good-requires c = let a = c.args in
    (good_when a.m a.n a.opening.now a.service.now (said_yes c.tables_good.ensures c.if-not-tables_good.false)).few_facilities

pub returns-then-not-start_good : goal.returns-then-not-start_good
unfolding searching
returns-then-not-start_good c = rw (said_yes c.tables_good.ensures c.if-not-tables_good.false, said_no c.start_good.ensures c.if-not-start_good.true)

pub search_on-requires : goal.search_on-requires
search_on-requires c = (said_yes c.tables_good.ensures c.if-not-tables_good.false, said_yes c.start_good.ensures c.if-not-start_good.false)

pub returns : goal.returns
unfolding searching
returns c = rw (said_yes c.tables_good.ensures c.if-not-tables_good.false, said_yes c.start_good.ensures c.if-not-start_good.false) (ap Some c.search_on.ensures)
