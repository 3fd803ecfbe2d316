use mathlib.Core.Path.{◌≡◌, sym, subst, ap, ◌∙◌}
use Prim.Native.Nat.{◌+◌}
use native.Mathlib.Omega.{arith}
use Rattle.record.specs.Records.{records}
use Rattle.record.proofs.RecordLaws.{whole}
use Rattle.tariff.specs.Bands.{whole_charge}
use Rattle.tariff.specs.Reading.{bands_of}
use Rattle.tariff.proofs.QuestionLaws.{band_read}
use Rattle.tariff.proofs.StartLaws.{cost_none, cost_more}
use Rattle.tariff.proofs.MakingLaws.{Made, made_none, may_follow, made_more, made_prices, cost_fits, accepted_allowed}
use Rattle.tariff.proofs.reading.tariff_of.Goals as goal

pub loop-i-init : goal.loop-i-init
loop-i-init c = (made_none _ _ c.without_bands-tariff.ensures, cost_none _)

pub with_band-tariff-requires : goal.with_band-tariff-requires
unfolding bands_of
with_band-tariff-requires c = let allowed = accepted_allowed _ (λ i. omega (arith, c.shared_slice_known-1.given i)) c.requires.0 c.requires.1 in
    let read = band_read _ _ _ _ (c.at.ensures ∙ whole _ _ (omega arith)) c.from-band.ensures in
    may_follow _ allowed _ _ _ (omega arith) read c.loop-i.invariant.1

pub overflow_add-cost : goal.overflow_add-cost
unfolding bands_of
overflow_add-cost c = let allowed = accepted_allowed _ (λ i. omega (arith, c.shared_slice_known-1.given i)) c.requires.0 c.requires.1 in
    let read = band_read _ _ _ _ (c.at.ensures ∙ whole _ _ (omega arith)) c.from-band.ensures in
    let sum = cost_more _ _ _ _ c.loop-i.invariant.1 (c.whole_charge-cost.ensures ∙ ap whole_charge read) in
    omega (arith, sum, cost_fits _ allowed (c.loop-i.i + 1) (omega arith))

pub loop-i-preserved : goal.loop-i-preserved
unfolding bands_of
loop-i-preserved c = let allowed = accepted_allowed _ (λ i. omega (arith, c.shared_slice_known-1.given i)) c.requires.0 c.requires.1 in
    let read = band_read _ _ _ _ (c.at.ensures ∙ whole _ _ (omega arith)) c.from-band.ensures in (
      subst (Made _ _) (sym c.with_band-tariff.ensures) (made_more _ allowed _ _ _ _ (omega arith) read c.loop-i.invariant.1 c.loop-i.invariant.0),
      cost_more _ _ _ _ c.loop-i.invariant.1 (c.whole_charge-cost.ensures ∙ ap whole_charge read),
    )

pub returns : goal.returns
unfolding bands_of
returns c = let allowed = accepted_allowed _ (λ i. omega (arith, c.shared_slice_known-1.given i)) c.requires.0 c.requires.1 in
    let e : c.loop-i.i ≡ records c.args.bytes.now = omega arith in
    made_prices _ allowed _ (rw e at c.loop-i.invariant.0)
