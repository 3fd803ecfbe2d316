use mathlib.Core.Path.{◌≡◌, refl, sym, subst, ◌∙◌}
use native.Mathlib.Omega.{arith}
use Rattle.tariff.specs.House.{house}
use Rattle.tariff.proofs.MakingLaws.{Made, made_more, made_prices, line_begins}
use Rattle.tariff.proofs.HouseLaws.{house_allowed, start_is}
use Rattle.tariff.proofs.house.house_tariff.Goals as goal

pub loop-i-preserved : goal.loop-i-preserved
loop-i-preserved c = subst (Made house _) (sym c.with_band-tariff.ensures) (made_more house house_allowed _ _ _ _ (omega arith) refl (start_is _ (omega arith)) c.loop-i.invariant)

pub returns : goal.returns
returns c = let e : c.loop-i.i ≡ 6 = omega arith in
    let all = rw e at c.loop-i.invariant in
    record {
      prices = made_prices house house_allowed _ all;
      starts = λ i l. line_begins house house_allowed _ all i l ∙ sym (start_is i l);
    }
