-- `descent::cost_now` meets its contract: the opening costs of the listed facilities, and the costs of the nearest ones.
use native.Mathlib.Nat.{le_trans}
use native.Mathlib.Omega.{arith}
use Rattle.engine.proofs.ListedLaws.{part_room, part_listed}
use Rattle.engine.proofs.MovePriceLaws.{firsts_within, cost_now, cost_few}
use Rattle.engine.proofs.descent.NextSetLaws.{listed_within, openings_are}
use Rattle.engine.proofs.descent.cost_now.Goals as goal

pub shared_ref_as_front-openings_of : goal.shared_ref_as_front-openings_of
shared_ref_as_front-openings_of c = omega (arith, part_room c.args.set c.members_of-members.result c.members_of-members.ensures)

pub openings_of-opened-requires : goal.openings_of-opened-requires
openings_of-opened-requires c = let a = c.args in
    listed_within a.tables.service.m a.tables.service.n a.tables.opening.now a.tables.service.costs.now (record { set = a.set; cost = 0 }) a.kept.now c.requires a.tables.openings _ (part_listed a.set c.members_of-members.result c.members_of-members.ensures)

pub nearest_costs-requires : goal.nearest_costs-requires
nearest_costs-requires c = let sums = c.requires.sums in
    firsts_within c.args.tables.service.n _ sums.rows.few_clients (omega (arith, sums.room, sums.rows.few_clients)) (λ j l. le_trans (sums.ordered j l) (sums.within j l))

pub overflow_add-result : goal.overflow_add-result
overflow_add-result c = let a = c.args in
    omega (
      arith,
      cost_now a.tables.service.m a.tables.service.n a.tables.opening.now a.tables.service.costs.now a.set a.kept.now c.requires _ _
          (openings_are a.tables.service.m a.tables.service.n a.tables.opening.now a.tables.service.costs.now (record { set = a.set; cost = 0 }) a.kept.now c.requires a.tables.openings _ (part_listed a.set c.members_of-members.result c.members_of-members.ensures) _ c.openings_of-opened.ensures) c.nearest_costs.ensures,
      cost_few a.tables.service.m a.tables.service.n a.tables.opening.now a.tables.service.costs.now a.set a.kept.now c.requires a.tables.openings,
    )

pub returns : goal.returns
returns c = let a = c.args in
    cost_now a.tables.service.m a.tables.service.n a.tables.opening.now a.tables.service.costs.now a.set a.kept.now c.requires _ _
    (openings_are a.tables.service.m a.tables.service.n a.tables.opening.now a.tables.service.costs.now (record { set = a.set; cost = 0 }) a.kept.now c.requires a.tables.openings _ (part_listed a.set c.members_of-members.result c.members_of-members.ensures) _ c.openings_of-opened.ensures) c.nearest_costs.ensures
