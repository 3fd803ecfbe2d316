-- `price_by` meets its contract: the set is priced on the sheet of hauls, or the refusal handed on.
use mathlib.Core.Path.{◌≡◌, sym, ap, ◌∙◌}
use borrow.Author.Rules.{rules}
use lib.ListN.{length}
use Rattle.std.proofs.lemmas.Result.{err_from_is_err_and}
use Rattle.distances.proofs.CallLaws.{as_told, as_refused}
use Rattle.price.specs.Pricing.{pricing}
use Rattle.price_by.specs.PricingBy.{pricing_by}
use Rattle.price.proofs.PricingLaws.{refuses, as_outcome}
use Rattle.price.proofs.OfPlanLaws.{none_written}
use Rattle.price_by.proofs.PricingByLaws.{pricing_first}
use Rattle.price_by.proofs.price_by.Goals as goal

pub returns : goal.returns
unfolding pricing_by
returns c = let a = c.args in
    let priced = c.price in
    let room = length a.area.now in
    let both = as_outcome (ap (λ h. pricing h a.set room) c.within.ensures
    ∙ as_told _ _ _ _ (search rules) _ _ c.hauls_by.ensures.hauls (λ h. pricing h a.set room) (pricing_first a.set room) _ c.in_ok-hauls.was)
    priced.result _ _ (priced.ensures.answer, priced.ensures.area) in
    record { answer = both.0; area = both.1; kept = priced.ensures.kept }

pub returns-in_err-hauls : goal.returns-in_err-hauls
unfolding pricing_by
returns-in_err-hauls c = let a = c.args in
    let p = err_from_is_err_and c.from_residual.result c.from_residual.ensures.1 in
    let both = refuses _ a.area.now _ (sym (as_refused _ _ _ _ (search rules) _ _ c.hauls_by.ensures.hauls (λ h. pricing h a.set (length a.area.now)) _ c.in_err-hauls.was)) in
    rw (p.1, p.2) record { answer = both.0; area = both.1; kept = none_written _ a.area.now (λ kept. kept ≡ a.set) }
