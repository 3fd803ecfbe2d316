-- `second` meets its contract: each arm is a case of `seconding`.
use mathlib.Core.Path.{sym, ap, ◌∙◌}
use Rattle.model.proofs.Bools.{said_no, said_yes}
use Rattle.std.proofs.lemmas.Result.{err_from_is_err_and}
use Rattle.refusal.specs.Numbers.{answer_of}
use Rattle.shut.proofs.ShuttingLaws.{second_unread, second_marked, no_farm, second_told}
use Rattle.shut.proofs.second.Goals as goal

pub returns-then-not-set_good : goal.returns-then-not-set_good
returns-then-not-set_good c = let e = sym c.read.ensures ∙ ap answer_of c.in_ok-yards.was in
    second_marked _ _ _ _ _ e (said_no c.set_good.ensures c.if-not-set_good.true)

pub returns-then-farms-farm : goal.returns-then-farms-farm
returns-then-farms-farm c = let e = sym c.read.ensures ∙ ap answer_of c.in_ok-yards.was in
    no_farm _ _ _ _ _ e (said_yes c.set_good.ensures c.if-not-set_good.false) c.if-farms-farm.true

pub returns : goal.returns
returns c = let e = sym c.read.ensures ∙ ap answer_of c.in_ok-yards.was in
    second_told _ _ _ _ _ e (said_yes c.set_good.ensures c.if-not-set_good.false) c.if-farms-farm.false _ _ c.farm_stretch-hauls.ensures c.second_yard.ensures

pub returns-in_err-yards : goal.returns-in_err-yards
returns-in_err-yards c = let p = err_from_is_err_and c.from_residual.result c.from_residual.ensures.1 in
    rw (p.1, p.2) (second_unread _ _ _ _ (sym c.read.ensures ∙ ap answer_of c.in_err-yards.was))
