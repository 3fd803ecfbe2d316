-- `removed` meets its contract: each `return` is a case of `without`. The set is no smaller than the bit that it has.
use native.Mathlib.Omega.{arith}
use Rattle.model.specs.Sets.{without}
use Rattle.model.proofs.Bools.{said_no, said_yes}
use Rattle.model.proofs.SetLaws.{member_le, member_below, one_shl}
use borrow.Author.Rules.{rules}
use Rattle.sets.proofs.removed.Goals as goal

pub returns-then-not-has : goal.returns-then-not-has
unfolding without
returns-then-not-has c = rw (said_no c.has.ensures c.if-not-has.true)

pub overflow_cast-result : goal.overflow_cast-result
overflow_cast-result c = omega (arith, member_below 32 _ _ (search rules) (said_yes c.has.ensures c.if-not-has.false))

pub overflow_shl-result : goal.overflow_shl-result
overflow_shl-result c = member_below 32 _ _ (search rules) (said_yes c.has.ensures c.if-not-has.false)

pub overflow_sub-result : goal.overflow_sub-result
overflow_sub-result c = let lit = said_yes c.has.ensures c.if-not-has.false in
    rw (one_shl 32 _ (member_below 32 _ _ (search rules) lit)) (member_le _ _ lit)

pub returns : goal.returns
unfolding without
returns c = let lit = said_yes c.has.ensures c.if-not-has.false in
    rw (lit, one_shl 32 _ (member_below 32 _ _ (search rules) lit))
