use Prim.Native.Nat.{◌<◌}
use native.Mathlib.Omega.{arith}
use mathlib.Core.Path.{◌≡◌, refl, ap, ◌∙◌}
use mathlib.Core.Bool.{Bool, true, false}
use mir.Val.{bool_byte}
use Rattle.model.specs.Loops.{on}
use Rattle.model.proofs.SumLaws.{on_le}
use Rattle.sets.specs.Members.{rising_below, listing, members_below}
use Rattle.sets.proofs.MemberLaws.{listing_none, listing_more, count_room}
use Rattle.sets.proofs.members_below.Goals as goal
use Rattle.sets.proofs.members_below.Goals.{then-listed, else-listed}

-- a test as a number
byte_on : (b : Bool) → bool_byte b ≡ on b 1
byte_on true = refl
byte_on false = refl

pub loop-i-init : goal.loop-i-init
loop-i-init c = listing_none _

pub bounds-list-count : goal.bounds-list-count
bounds-list-count c = let l = c.loop-i in
    count_room _ l.i l.list l.count (omega (arith, c.min-i-end.ensures)) l.invariant

pub overflow_add-count : goal.overflow_add-count
overflow_add-count c = let l = c.loop-i in
    let few = count_room _ l.i l.list l.count (omega (arith, c.min-i-end.ensures)) l.invariant in
    omega (arith, c.from.ensures, byte_on c.has-listed.result, on_le c.has-listed.result 1)

pub loop-i-preserved : goal.loop-i-preserved
loop-i-preserved c = let l = c.loop-i in
    let few : l.i < 32 = omega (arith, c.min-i-end.ensures) in
    let put : c.if-listed.list ≡ on c.has-listed.result l.i = elim c.if-listed.branch [
      | then-listed w ↦ rw (w.if-listed.true, w.list-is)
      | else-listed w ↦ rw (w.if-listed.false, w.list-is)
    ] in
    listing_more _ l.i l.list l.count few l.invariant _ c.has-listed.ensures _ _ put (c.from.ensures ∙ byte_on c.has-listed.result)

pub returns : goal.returns
unfolding members_below
returns c = let e : c.loop-i.i ≡ c.min-i-end.result = omega arith in
    c.loop-i.invariant ∙ ap (λ k. listing (rising_below k c.args.set)) (e ∙ c.min-i-end.ensures)
