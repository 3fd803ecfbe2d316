-- `moves::try_add` meets its contract: a price that is not lower, a facility of the set, and another one at a lower price.
use Prim.Native.Nat.{◌≤◌, ◌<◌}
use native.Mathlib.Omega.{arith}
use mathlib.Core.Path.{sym, ◌∙◌}
use Rattle.engine.proofs.BestMoveLaws.{add_dear, add_open, add_taken}
use Rattle.engine.proofs.moves.try_add.Goals as goal

pub returns-then-b-cost : goal.returns-then-b-cost
returns-then-b-cost c = let a = c.args in
    let dear : a.b.cost ≤ a.cost = omega arith in
    add_dear _ _ _ _ _ dear

pub returns-then-has : goal.returns-then-has
returns-then-has c = add_open _ _ _ _ _ (sym c.has.ensures ∙ c.if-has.true)

pub returns : goal.returns
returns c = let a = c.args in
    let lower : a.cost < a.b.cost = omega arith in
    add_taken _ _ _ _ _ _ lower (sym c.has.ensures ∙ c.if-has.false) c.added.ensures
