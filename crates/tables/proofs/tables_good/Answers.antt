-- `tables_good` meets its contract: one test after the other.
use mathlib.Core.Path.{sym, ◌∙◌}
use Prim.Native.Nat.{◌*◌}
use Rattle.model.proofs.Bools.{said_no, said_yes}
use Rattle.tables.proofs.LentTableLaws.{no_facility_lem, many_facilities, many_clients, opening_short, service_short, opening_high, entries_tell, all_openings, high_entries}
use Rattle.tables.proofs.tables_good.Goals as goal

pub returns-then-m-lt1 : goal.returns-then-m-lt1
returns-then-m-lt1 c = let a = c.args in
    sym (no_facility_lem a.m a.n a.opening.now a.service.now c.if-m-lt1.true)

pub returns-then-m-gt-MOST_FACILITIES : goal.returns-then-m-gt-MOST_FACILITIES
returns-then-m-gt-MOST_FACILITIES c = let a = c.args in
    sym (many_facilities a.m a.n a.opening.now a.service.now c.if-m-lt1.false c.if-m-gt-MOST_FACILITIES.true)

pub returns-then-n-gt-MOST_CLIENTS : goal.returns-then-n-gt-MOST_CLIENTS
returns-then-n-gt-MOST_CLIENTS c = let a = c.args in
    sym (many_clients a.m a.n a.opening.now a.service.now c.if-m-lt1.false c.if-m-gt-MOST_FACILITIES.false c.if-n-gt-MOST_CLIENTS.true)

pub returns-then-opening-m : goal.returns-then-opening-m
returns-then-opening-m c = let a = c.args in
    sym (opening_short a.m a.n a.opening.now a.service.now c.if-m-lt1.false c.if-m-gt-MOST_FACILITIES.false c.if-n-gt-MOST_CLIENTS.false c.if-opening-m.true)

pub returns-then-service-n : goal.returns-then-service-n
returns-then-service-n c = let a = c.args in
    sym (service_short a.m a.n a.opening.now a.service.now c.if-m-lt1.false c.if-m-gt-MOST_FACILITIES.false c.if-n-gt-MOST_CLIENTS.false c.if-opening-m.false c.if-service-n.true)

pub returns-then-not-openings_within : goal.returns-then-not-openings_within
returns-then-not-openings_within c = let a = c.args in
    sym (opening_high a.m a.n a.opening.now a.service.now c.if-m-lt1.false c.if-m-gt-MOST_FACILITIES.false c.if-n-gt-MOST_CLIENTS.false c.if-opening-m.false c.if-service-n.false (said_no (c.openings_within.ensures ∙ all_openings a.opening.now a.m c.if-opening-m.false) c.if-not-openings_within.true))

pub returns : goal.returns
returns c = let a = c.args in
    entries_tell a.m a.n a.opening.now a.service.now c.if-m-lt1.false c.if-m-gt-MOST_FACILITIES.false c.if-n-gt-MOST_CLIENTS.false c.if-opening-m.false c.if-service-n.false _ (said_yes (c.openings_within.ensures ∙ all_openings a.opening.now a.m c.if-opening-m.false) c.if-not-openings_within.false)
    (c.high_count.ensures ∙ high_entries a.service.now (a.n * a.m) c.if-service-n.false)
