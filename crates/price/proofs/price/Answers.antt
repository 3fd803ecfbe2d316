-- `price` meets its contract: each arm is a case of `pricing`, which keeps the set given.
use mathlib.Core.Path.{sym, ap, ◌∙◌}
use Rattle.model.proofs.Bools.{said_no, said_yes}
use Rattle.std.proofs.lemmas.Result.{err_from_is_err_and}
use Rattle.refusal.specs.Numbers.{answer_of}
use Rattle.questions.proofs.AcceptedLaws.{accepts, shape_of}
use Rattle.plan_area.proofs.PlanRecordLaws.{fits_within}
use Rattle.price.proofs.PricingLaws.{refuses, unread, badly_marked, no_room, prices}
use Rattle.price.proofs.OfPlanLaws.{pricing_promises}
use Rattle.price.proofs.price.Goals as goal

pub returns-then-not-set_good : goal.returns-then-not-set_good
returns-then-not-set_good c = let e = sym c.read.ensures ∙ ap answer_of c.in_ok-yards.was in
    let told = pricing_promises _ _ _ c.args.area.now _ (refuses _ _ 8 (badly_marked _ _ _ _ _ e (said_no c.set_good.ensures c.if-not-set_good.true))) in
    record { answer = told.0; area = told.1.0; kept = told.1.1 }

pub returns-then-not-plan_fits : goal.returns-then-not-plan_fits
returns-then-not-plan_fits c = let e = sym c.read.ensures ∙ ap answer_of c.in_ok-yards.was in
    let f = (accepts _ _ _ e).has in
    let told = pricing_promises _ _ _ c.args.area.now _ (refuses _ _ 9 (no_room _ _ _ _ _ e (said_yes c.set_good.ensures c.if-not-set_good.false)
    (said_no (c.plan_fits.ensures ∙ fits_within _ _ _ f.some_yards f.few_yards f.few_farms) c.if-not-plan_fits.true))) in
    record { answer = told.0; area = told.1.0; kept = told.1.1 }

pub returns : goal.returns
returns c = let e = sym c.read.ensures ∙ ap answer_of c.in_ok-yards.was in
    let f = shape_of (accepts _ _ _ e).has in
    let fits = said_yes c.plan_fits.ensures c.if-not-plan_fits.false in
    let told = pricing_promises _ _ _ c.args.area.now _ (prices _ _ _ _ e _ _ _ (said_yes c.set_good.ensures c.if-not-set_good.false)
    (sym (fits_within _ _ _ f.some_yards f.few_yards f.few_farms) ∙ fits) c.write_plan-bytes.ensures.bytes c.write_plan-bytes.ensures.area) in
    record { answer = told.0; area = told.1.0; kept = told.1.1 }

pub returns-in_err-yards : goal.returns-in_err-yards
returns-in_err-yards c = let p = err_from_is_err_and c.from_residual.result c.from_residual.ensures.1 in
    let told = pricing_promises _ _ _ c.args.area.now _ (refuses _ _ _ (unread _ _ _ _ (sym c.read.ensures ∙ ap answer_of c.in_err-yards.was))) in
    rw (p.1, p.2) record { answer = told.0; area = told.1.0; kept = told.1.1 }
