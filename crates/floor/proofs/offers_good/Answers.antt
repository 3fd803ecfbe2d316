use mathlib.Core.Path.{◌≡◌, sym, ◌∙◌}
use native.Mathlib.Omega.{arith}
use Rattle.model.proofs.Bools.{said_no, said_yes}
use Rattle.model.proofs.LoopLaws.{all_none, all_more, all_stops}
use Rattle.record.proofs.RecordLaws.{whole}
use Rattle.floor.proofs.OfferingLaws.{wrong_length, right_length, offer_read}
use Rattle.floor.proofs.offers_good.Goals as goal

pub returns-then-offers-n : goal.returns-then-offers-n
returns-then-offers-n c = sym (wrong_length _ _ (λ e. omega arith))

pub loop-farm-init : goal.loop-farm-init
loop-farm-init c = (c.if-offers-n.false, all_none _)

pub returns-then-not-is_offer : goal.returns-then-not-is_offer
returns-then-not-is_offer c = let test = c.is_offer.ensures ∙ offer_read _ _ _ (c.at.ensures ∙ whole _ _ (omega arith)) in
    sym (right_length _ _ c.loop-farm.invariant.0 ∙ all_stops _ _ c.loop-farm.farm (omega arith) (said_no test c.if-not-is_offer.true))

pub loop-farm-preserved : goal.loop-farm-preserved
loop-farm-preserved c = let test = c.is_offer.ensures ∙ offer_read _ _ _ (c.at.ensures ∙ whole _ _ (omega arith)) in
    (c.loop-farm.invariant.0, all_more _ _ c.loop-farm.invariant.1 (said_yes test c.if-not-is_offer.false))

pub returns : goal.returns
returns c = let l = c.loop-farm in
    let e : l.farm ≡ c.args.n = omega arith in
    rw e at l.invariant.1 ∙ sym (right_length _ _ l.invariant.0)
