-- `clients::begin_client` meets its contract: the two nearest by the set's list are put into the client's places.
use Rattle.engine.proofs.ClientLaws.{near_put, near_ordered}
use Rattle.engine.proofs.clients.begin_client.Goals as goal

pub enter-requires : goal.enter-requires
enter-requires c = let a = c.args in
    (c.requires.0, c.requires.1, c.requires.2, near_ordered a.service.m a.service.costs.now a.set a.j c.near_of-near.result c.near_of-near.ensures)

pub returns : goal.returns
returns c = let answer = c.enter.ensures in
    let a = c.args in
    let near = c.near_of-near in
    record {
      kept = answer.kept;
      near = near_put a.service.m a.service.costs.now _ _ a.j a.set near.result near.ensures answer.put;
      others = answer.put.others;
    }
