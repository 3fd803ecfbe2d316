use native.Mathlib.Omega.{arith}
use lib.ListN.{length}
use mathlib.Core.Path.{◌≡◌, ap, ◌∙◌}
use Rattle.model.proofs.SetLaws.{member_below}
use Rattle.sets.proofs.MemberLaws.{listed_next}
use Rattle.engine.specs.Near.{near_of}
use Rattle.engine.proofs.NearLaws.{near_none, near_more, near_all}
use Rattle.engine.proofs.near.near_of.Goals as goal

pub loop-i-init : goal.loop-i-init
loop-i-init c = let a = c.args in near_none a.service.m a.service.costs.now a.set a.j a.list.now

pub packed_at-requires : goal.packed_at-requires
packed_at-requires c = let r = listed_next _ 32 _ c.requires.2 _ c.loop-i-test.true in
    (c.requires.0, member_below _ _ _ c.requires.1 r.is_in_lem)

pub loop-i-preserved : goal.loop-i-preserved
loop-i-preserved c = let a = c.args in
    let r = listed_next _ 32 _ c.requires.2 _ c.loop-i-test.true in
    c.inserted-near.ensures
    ∙ near_more a.service.m a.service.costs.now a.set a.j _ _ _ c.loop-i.near r c.loop-i.invariant c.packed_at.ensures

pub returns : goal.returns
returns c = let e : c.loop-i.i-index ≡ length c.args.list.now = omega arith in
    (rw e at c.loop-i.invariant) ∙ ap near_of (near_all _ _ _ _ _ c.requires.2 c.args.service.rows.few_facilities c.requires.1)
