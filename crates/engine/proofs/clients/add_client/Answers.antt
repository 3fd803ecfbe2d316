-- `clients::add_client` meets its contract: a client that keeps its two nearest is left, another one's are put anew.
use Rattle.engine.proofs.ClientLaws.{near_put, near_ordered, near_kept, near_joined, others_same, goes_nowhere}
use Rattle.engine.proofs.clients.add_client.Goals as goal

pub returns-then-near-arrived : goal.returns-then-near-arrived
returns-then-near-arrived c = let arrived = c.arrival-arrived in
    let a = c.args in
    let pre = c.requires in
    let here =
    near_kept a.service.m a.service.costs.now a.kept.now a.set a.next a.came 32 a.j arrived.result pre.0.rows.few_facilities
    pre.3 pre.2 arrived.ensures c.if-near-arrived.true (goes_nowhere _)
    in
    record { kept = pre.0; near = here; others = others_same a.j a.kept.now }

pub change-requires : goal.change-requires
change-requires c = let a = c.args in
    let pre = c.requires in
    let after = c.inserted-after in
    let is = near_joined a.service.m a.service.costs.now a.kept.now a.set a.next a.came a.j _ after.result pre.0.rows.few_facilities pre.3
    pre.2 c.arrival-arrived.ensures after.ensures in
    (pre.0, pre.1, near_ordered a.service.m a.service.costs.now a.next a.j after.result is)

pub returns : goal.returns
returns c = let a = c.args in
    let pre = c.requires in
    let answer = c.change.ensures in
    let after = c.inserted-after in
    let is = near_joined a.service.m a.service.costs.now a.kept.now a.set a.next a.came a.j _ after.result pre.0.rows.few_facilities pre.3
    pre.2 c.arrival-arrived.ensures after.ensures in
    record { kept = answer.kept; near = near_put a.service.m a.service.costs.now _ _ a.j a.next after.result is answer.put; others = answer.put.others }
