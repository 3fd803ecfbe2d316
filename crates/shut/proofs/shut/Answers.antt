-- `shut` meets its contract: each arm is a case of `shutting`.
use native.Mathlib.Omega.{arith}
use mathlib.Core.Path.{sym, ap, ◌∙◌}
use mir.Syntax.{w64}
use mir.Facts.{to_z-of_z}
use Rattle.model.proofs.Bools.{said_no, said_yes}
use Rattle.std.proofs.lemmas.Result.{err_from_is_err_and}
use Rattle.refusal.specs.Numbers.{answer_of}
use Rattle.questions.proofs.AcceptedLaws.{accepts, shape_of}
use Rattle.shut.proofs.ShuttingLaws.{left_over, shut_unread, shut_marked, not_shut, yard_there, shut_told, shut_answers}
use Rattle.shut.proofs.shut.Goals as goal

pub returns-then-not-set_good : goal.returns-then-not-set_good
returns-then-not-set_good c = let e = sym c.read.ensures ∙ ap answer_of c.in_ok-yards.was in
    let told = shut_answers _ _ _ _ (shut_marked _ _ _ _ _ e (said_no c.set_good.ensures c.if-not-set_good.true)) in
    record { answer = told.0; difference = told.1 }

pub returns-then-not-can_shut : goal.returns-then-not-can_shut
returns-then-not-can_shut c = let e = sym c.read.ensures ∙ ap answer_of c.in_ok-yards.was in
    let marked = said_yes c.set_good.ensures c.if-not-set_good.false in
    let told = shut_answers _ _ _ _ (not_shut _ _ _ _ _ e marked (said_no (c.can_shut.ensures ∙ left_over _ _ _ marked) c.if-not-can_shut.true)) in
    record { answer = told.0; difference = told.1 }

pub invariant_of-counted : goal.invariant_of-counted
invariant_of-counted c = record { shape = shape_of (accepts _ _ _ (sym c.read.ensures ∙ ap answer_of c.in_ok-yards.was)).has }

pub overflow_add-fee : goal.overflow_add-fee
overflow_add-fee c = let few = (accepts _ _ _ (sym c.read.ensures ∙ ap answer_of c.in_ok-yards.was)).has.few_farms in
    let small = c.hauls_moved-moved.ensures.small in
    record { fits = omega (arith, c.fee-fee.type_inv, small.0, small.1, few) }

pub less-requires : goal.less-requires
less-requires c = let few = (accepts _ _ _ (sym c.read.ensures ∙ ap answer_of c.in_ok-yards.was)).has.few_farms in
    let small = c.hauls_moved-moved.ensures.small in
    (omega (arith, c.fee-fee.type_inv, small.0, small.1, few), omega (arith, c.fee-fee.type_inv, small.0, small.1, few))

pub returns : goal.returns
returns c = let e = sym c.read.ensures ∙ ap answer_of c.in_ok-yards.was in
    let marked = said_yes c.set_good.ensures c.if-not-set_good.false in
    let can = said_yes (c.can_shut.ensures ∙ left_over _ _ _ marked) c.if-not-can_shut.false in
    let told = shut_answers _ _ _ _ (shut_told _ _ _ _ _ e marked can _ _ _ _ (c.fee-fee.ensures.fee (yard_there _ _ _ _ _ e marked can)) c.hauls_moved-moved.ensures.there c.hauls_moved-moved.ensures.elsewhere (to_z-of_z {w = w64} (record { sfits = c.less.type_inv }) ∙ c.less.ensures)) in
    record { answer = told.0; difference = told.1 }

pub returns-in_err-yards : goal.returns-in_err-yards
returns-in_err-yards c = let p = err_from_is_err_and c.from_residual.result c.from_residual.ensures.1 in
    let told = shut_answers _ _ _ _ (shut_unread _ _ _ _ (sym c.read.ensures ∙ ap answer_of c.in_err-yards.was)) in
    rw (p.1, p.2) record { answer = told.0; difference = told.1 }
