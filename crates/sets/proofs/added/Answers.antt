-- `added` meets its contract: each `return` is a case of `with`. The sum fits, since the bit is not there.
use mathlib.Core.Path.{sym, ◌∙◌}
use Rattle.model.specs.Sets.{with}
use Rattle.sets.proofs.WithinLaws.{with32_below, with32_above, room}
use Rattle.model.proofs.SetLaws.{one_shl}
use borrow.Author.Rules.{rules}
use Rattle.sets.proofs.added.Goals as goal

pub returns-then-i-ge-BITS : goal.returns-then-i-ge-BITS
returns-then-i-ge-BITS c = sym (with32_above _ _ c.if-i-ge-BITS.true)

pub returns-then-has : goal.returns-then-has
unfolding with
returns-then-has c = rw (with32_below _ _ c.if-i-ge-BITS.false, sym c.has.ensures ∙ c.if-has.true)

pub overflow_add-result : goal.overflow_add-result
overflow_add-result c = let a = c.args in
    let below = c.if-i-ge-BITS.false in
    record { fits = rw (one_shl 32 a.i below) (room a.set a.i (search rules) below (sym c.has.ensures ∙ c.if-has.false)) }

pub returns : goal.returns
unfolding with
returns c = rw (with32_below _ _ c.if-i-ge-BITS.false, sym c.has.ensures ∙ c.if-has.false, one_shl 32 _ c.if-i-ge-BITS.false)
