-- `near::near_after` meets its contract: where neither of the two went, only the one that came can change them; else the one that is left
-- is the nearest.
use mathlib.Core.Path.{◌≡◌, sym, ◌∙◌}
use Rattle.engine.specs.Near.{near_two}
use Rattle.engine.proofs.NearLaws.{near_with, first_gone, first_stays}
use Rattle.engine.proofs.near.near_after.Goals as goal
use Rattle.engine.proofs.near.near_after.Goals.{then-with_arrival-went, else-with_arrival-went}

pub second_of-requires : goal.second_of-requires
second_of-requires c = let a = c.args in
    let p = c.requires in
    let kept_is = c.inserted-with_arrival.ensures in
    let first_is : c.if-with_arrival-went.first ≡ (near_two a.service.m a.service.costs.now a.next a.j).first = elim c.if-with_arrival-went.branch [
      | then-with_arrival-went w ↦
          first_gone _ _ _ _ _ _ _ a.service.rows.few_facilities p.moved _ _ _ _ p.near_is p.arrived_is kept_is w.if-with_arrival-went.true w.first-is
      | else-with_arrival-went w ↦
          first_stays _ _ _ _ _ _ _ a.service.rows.few_facilities p.moved _ _ _ _ p.near_is p.arrived_is kept_is w.if-with_arrival-went.false w.first-is
    ]
    in
    (p.client, p.next_small, p.listed, first_is)

pub returns-then-goes_to : goal.returns-then-goes_to
returns-then-goes_to c = let a = c.args in
    let p = c.requires in
    let kept_is = c.inserted-with_arrival.ensures in
    let first_is : c.if-with_arrival-went.first ≡ (near_two a.service.m a.service.costs.now a.next a.j).first = elim c.if-with_arrival-went.branch [
      | then-with_arrival-went w ↦
          first_gone _ _ _ _ _ _ _ a.service.rows.few_facilities p.moved _ _ _ _ p.near_is p.arrived_is kept_is w.if-with_arrival-went.true w.first-is
      | else-with_arrival-went w ↦
          first_stays _ _ _ _ _ _ _ a.service.rows.few_facilities p.moved _ _ _ _ p.near_is p.arrived_is kept_is w.if-with_arrival-went.false w.first-is
    ]
    in
    rw (first_is, c.second_of.ensures)

pub returns : goal.returns
returns c = let a = c.args in
    let p = c.requires in
    near_with a.service.m a.service.costs.now a.set a.next _ _ a.j a.service.rows.few_facilities p.moved
    a.near _ _ p.near_is p.arrived_is c.inserted-with_arrival.ensures (sym c.goes_to.ensures ∙ c.if-goes_to.false)
