-- `search_plan` meets its contract: each arm is a case of `search_planning`.
use mathlib.Core.Path.{sym, ap, ◌∙◌}
use Rattle.std.specs.Prelude.{Ok}
use Rattle.model.specs.Answers.{refused}
use Rattle.model.proofs.Bools.{said_no, said_yes}
use Rattle.std.proofs.lemmas.Result.{err_from_is_err_and}
use Rattle.refusal.specs.Numbers.{answer_of}
use Rattle.starts.proofs.StartLaws.{passed_alone, refused_alone}
use Rattle.questions.proofs.AcceptedLaws.{accepts, shape_of}
use Rattle.plan_area.proofs.PlanRecordLaws.{fits_within}
use Rattle.plan_search.proofs.PlanningLaws.{refuses, as_outcome, unread, bad_start, no_room, planned}
use Rattle.plan_search.proofs.search_plan.Goals as goal

pub returns-in_err-ask_start : goal.returns-in_err-ask_start
returns-in_err-ask_start c = let p = err_from_is_err_and c.from_residual-in_err-ask_start.result c.from_residual-in_err-ask_start.ensures.1 in
    let e = sym c.read.ensures ∙ ap answer_of c.in_ok-yards.was in
    let turned = refused_alone _ _ _ (sym (ap answer_of c.in_err-ask_start.was) ∙ c.ask_start.ensures) in
    let told = refuses _ _ _ (bad_start _ _ _ _ _ _ _ e turned.0 ∙ ap refused turned.1) in
    rw (p.1, p.2) record { answer = told.0; area = told.1 }

pub returns-then-not-plan_fits : goal.returns-then-not-plan_fits
returns-then-not-plan_fits c = let e = sym c.read.ensures ∙ ap answer_of c.in_ok-yards.was in
    let form = (accepts _ _ _ e).has in
    let told = refuses _ _ 9 (no_room _ _ _ _ _ _ _ e (passed_alone _ _ (sym (ap answer_of c.in_ok-ask_start.was) ∙ c.ask_start.ensures))
    (said_no (c.plan_fits.ensures ∙ fits_within _ _ _ form.some_yards form.few_yards form.few_farms) c.if-not-plan_fits.true)) in
    record { answer = told.0; area = told.1 }

pub invariant_of-counted : goal.invariant_of-counted
invariant_of-counted c = record { shape = shape_of (accepts _ _ _ (sym c.read.ensures ∙ ap answer_of c.in_ok-yards.was)).has }

pub invariant_of-read : goal.invariant_of-read
invariant_of-read c = record { read = sym c.read.ensures ∙ ap answer_of c.in_ok-yards.was }

pub plan_on-requires : goal.plan_on-requires
plan_on-requires c = let e = sym c.read.ensures ∙ ap answer_of c.in_ok-yards.was in
    let form = (accepts _ _ _ e).has in (
      passed_alone _ _ (sym (ap answer_of c.in_ok-ask_start.was) ∙ c.ask_start.ensures),
      said_yes (c.plan_fits.ensures ∙ fits_within _ _ _ form.some_yards form.few_yards form.few_farms) c.if-not-plan_fits.false,
    )

pub returns : goal.returns
returns c = let e = sym c.read.ensures ∙ ap answer_of c.in_ok-yards.was in
    let form = (accepts _ _ _ e).has in
    let q = said_yes (c.plan_fits.ensures ∙ fits_within _ _ _ form.some_yards form.few_yards form.few_farms) c.if-not-plan_fits.false in
    let told = as_outcome (sym (planned _ _ _ _ _ _ _ e
    (passed_alone _ _ (sym (ap answer_of c.in_ok-ask_start.was) ∙ c.ask_start.ensures)) q)) (Ok c.plan_on.result) _ _ (c.plan_on.ensures.answer, c.plan_on.ensures.area) in
    record { answer = told.0; area = told.1 }

pub returns-in_err-yards : goal.returns-in_err-yards
returns-in_err-yards c = let p = err_from_is_err_and c.from_residual.result c.from_residual.ensures.1 in
    let told = refuses _ _ _ (unread _ _ _ _ _ _ (sym c.read.ensures ∙ ap answer_of c.in_err-yards.was)) in
    rw (p.1, p.2) record { answer = told.0; area = told.1 }
