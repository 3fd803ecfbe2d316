-- `clients::move_client` meets its contract: a client that keeps its two nearest is left, another one's are put anew.
use Rattle.model.proofs.Bools.{said_no}
use Rattle.engine.proofs.ClientLaws.{near_is, near_put, near_ordered, near_kept, others_same}
use Rattle.engine.proofs.clients.move_client.Goals as goal

pub returns-then-not-goes_to : goal.returns-then-not-goes_to
returns-then-not-goes_to c = let arrived = c.arrival-arrived in
    let a = c.args in
    let pre = c.requires in
    let here =
    near_kept a.service.m a.service.costs.now a.kept.now a.set a.next a.came a.went a.j arrived.result pre.0.rows.few_facilities
    pre.3 pre.2 arrived.ensures c.if-near-arrived.true (said_no c.goes_to.ensures c.if-not-goes_to.true)
    in
    record { kept = pre.0; near = here; others = others_same a.j a.kept.now }

pub near_after-after-requires : goal.near_after-after-requires
near_after-after-requires c = let a = c.args in
    let pre = c.requires in
    record {
      client = pre.1;
      next_small = pre.4;
      moved = pre.3;
      near_is = near_is a.service.m a.service.costs.now a.kept.now a.set a.j pre.2;
      arrived_is = c.arrival-arrived.ensures;
      listed = pre.5;
    }

pub change-requires : goal.change-requires
change-requires c = let a = c.args in
    let after = c.near_after-after in
    (c.requires.0, c.requires.1, near_ordered a.service.m a.service.costs.now a.next a.j after.result after.ensures)

pub returns : goal.returns
returns c = let answer = c.change.ensures in
    let a = c.args in
    let after = c.near_after-after in
    record {
      kept = answer.kept;
      near = near_put a.service.m a.service.costs.now _ _ a.j a.next after.result after.ensures answer.put;
      others = answer.put.others;
    }
