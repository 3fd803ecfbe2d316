use native.Mathlib.Omega.{arith}
use mathlib.Core.Path.{◌≡◌, ◌∙◌}
use lib.ListN.{length}
use Rattle.model.proofs.SetLaws.{member_below}
use Rattle.model.proofs.PackedLaws.{other_than}
use Rattle.sets.proofs.MemberLaws.{listed_next}
use Rattle.engine.specs.Bounds.{no_facility}
use Rattle.engine.proofs.NearLaws.{least_none, least_more, least_all, other_first, other_else}
use Rattle.engine.proofs.near.second_of.Goals as goal
use Rattle.engine.proofs.near.second_of.Goals.{then-x-first, else-x-first}

pub loop-i-init : goal.loop-i-init
loop-i-init c = let a = c.args in least_none a.service.m a.service.costs.now a.set a.j a.first a.list.now

pub packed_at-x-requires : goal.packed_at-x-requires
packed_at-x-requires c = let r = listed_next _ 32 _ c.requires.2 _ c.loop-i-test.true in
    (c.requires.0, member_below _ _ _ c.requires.1 r.is_in_lem)

pub loop-i-preserved : goal.loop-i-preserved
loop-i-preserved c = let a = c.args in
    let l = c.loop-i in
    let x = c.packed_at-x in
    let other = c.if-x-first.other in
    let r = listed_next _ 32 _ c.requires.2 _ c.loop-i-test.true in
    let other-is : other ≡ other_than no_facility a.first x.result = elim c.if-x-first.branch [
      | then-x-first w ↦ other_first a.first x.result other w.if-x-first.true w.other-is
      | else-x-first w ↦ other_else a.first x.result other w.if-x-first.false w.other-is
    ] in
    c.min-least.ensures ∙ least_more a.service.m a.service.costs.now a.set a.j a.first _ _ _ _ l.least r l.invariant x.ensures other-is

pub returns : goal.returns
returns c = let a = c.args in
    let e : c.loop-i.i-index ≡ length a.list.now = omega arith in
    (rw e at c.loop-i.invariant)
    ∙ least_all a.service.m a.service.costs.now a.set a.j a.first _ c.requires.2 c.args.service.rows.few_facilities c.requires.1 c.requires.3
