-- `floor` meets its contract: each arm is a case of `offering`.
use native.Mathlib.Omega.{arith}
use mathlib.Core.Path.{sym, ap, ◌∙◌}
use Rattle.model.proofs.Bools.{said_no, said_yes}
use Rattle.std.proofs.lemmas.Result.{err_from_is_err_and}
use Rattle.refusal.specs.Numbers.{answer_of}
use Rattle.questions.proofs.AcceptedLaws.{accepts, shape_of}
use Rattle.floor.proofs.OfferedLaws.{offered_none, covered}
use Rattle.floor.proofs.OfferingLaws.{long_enough, unread, broken, overbids, told, answers}
use Rattle.floor.proofs.floor.Goals as goal

pub offers_good-requires : goal.offers_good-requires
offers_good-requires c = (accepts _ _ _ (sym c.read.ensures ∙ ap answer_of c.in_ok-yards.was)).has.few_farms

pub returns-then-not-offers_good : goal.returns-then-not-offers_good
returns-then-not-offers_good c = let e = sym c.read.ensures ∙ ap answer_of c.in_ok-yards.was in
    let told = answers _ _ _ (broken _ _ _ _ e (said_no c.offers_good.ensures c.if-not-offers_good.true)) in
    record { answer = told.0; under = told.1 }

pub invariant_of-counted : goal.invariant_of-counted
invariant_of-counted c = record { shape = shape_of (accepts _ _ _ (sym c.read.ensures ∙ ap answer_of c.in_ok-yards.was)).has }

pub add_offers-sum-requires : goal.add_offers-sum-requires
add_offers-sum-requires c = let shape = shape_of (accepts _ _ _ (sym c.read.ensures ∙ ap answer_of c.in_ok-yards.was)).has in
    let a = c.args in (
      long_enough _ _ (said_yes c.offers_good.ensures c.if-not-offers_good.false),
      shape.few_yards,
      offered_none a.sheet.now _ a.offers.now 32,
    )

pub fees_cover-requires : goal.fees_cover-requires
fees_cover-requires c = let shape = shape_of (accepts _ _ _ (sym c.read.ensures ∙ ap answer_of c.in_ok-yards.was)).has in
    omega (arith, shape.few_yards, c.add_offers-sum.auto.excess)

pub returns-then-not-fees_cover : goal.returns-then-not-fees_cover
returns-then-not-fees_cover c = let e = sym c.read.ensures ∙ ap answer_of c.in_ok-yards.was in
    let in_place = said_yes c.offers_good.ensures c.if-not-offers_good.false in
    let told = answers _ _ _ (overbids _ _ _ _ e in_place (said_no (c.fees_cover.ensures ∙ covered _ _ _ _ _ c.add_offers-sum.ensures.excess) c.if-not-fees_cover.true)) in
    record { answer = told.0; under = told.1 }

pub returns : goal.returns
returns c = let e = sym c.read.ensures ∙ ap answer_of c.in_ok-yards.was in
    let in_place = said_yes c.offers_good.ensures c.if-not-offers_good.false in
    let told = answers _ _ _ (told _ _ _ _ e in_place (said_yes (c.fees_cover.ensures ∙ covered _ _ _ _ _ c.add_offers-sum.ensures.excess) c.if-not-fees_cover.false) _ c.add_offers-sum.ensures.sum) in
    record { answer = told.0; under = told.1 }

pub returns-in_err-yards : goal.returns-in_err-yards
returns-in_err-yards c = let p = err_from_is_err_and c.from_residual.result c.from_residual.ensures.1 in
    let told = answers _ _ _ (unread _ _ _ (sym c.read.ensures ∙ ap answer_of c.in_err-yards.was)) in
    rw (p.1, p.2) record { answer = told.0; under = told.1 }
