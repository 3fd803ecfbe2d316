use mathlib.Core.Path.{◌≡◌, refl}
use native.Mathlib.Nat.{lt_of_le_of_lt, not-suc-le-zero}
use native.Mathlib.Omega.{arith}
use Rattle.questions.proofs.AmountLaws.{loads_small}
use Rattle.floor.proofs.OfferedLaws.{hauls_long, sum_is, offer_is, offer_more}
use Rattle.floor.proofs.offered.add_offer.Goals as goal

pub loop-yard-init : goal.loop-yard-init
loop-yard-init c = let long = hauls_long _ _ _ _ c.args.sheet.shape c.requires.2 _ c.hauls-hauls.ensures in
    (omega arith, record { changed = λ k l. absurd (not-suc-le-zero l); still = λ k l b. c.requires.3 k b })

pub overflow_mul-excess : goal.overflow_mul-excess
overflow_mul-excess c = let small = loads_small _ _ c.saturating_sub.result c.loads_of-loads.ensures (omega arith) (omega (arith, c.saturating_sub.type_inv)) in
    record { fits = lt_of_le_of_lt small (omega arith) }

pub overflow_add-excess : goal.overflow_add-excess
overflow_add-excess c = let small = loads_small _ _ c.saturating_sub.result c.loads_of-loads.ensures (omega arith) (omega (arith, c.saturating_sub.type_inv)) in
    let so_far = (c.loop-yard.invariant.1.still c.loop-yard.yard (omega arith) (omega arith)).1 in
    record { fits = omega (arith, small, so_far, c.args.sheet.shape.few_farms, c.requires.2) }

pub loop-yard-preserved : goal.loop-yard-preserved
loop-yard-preserved c = let l = c.loop-yard in
    let inside = c.loop-yard-test.true in
    let small = loads_small _ _ c.saturating_sub.result c.loads_of-loads.ensures (omega arith) (omega (arith, c.saturating_sub.type_inv)) in
    let is = offer_is _ _ _ _ _ c.args.sheet.shape c.requires.0 c.requires.2 _ c.hauls-hauls.ensures _ (c.loads_byte.ensures.loads c.requires.2) _ c.loads_of-loads.ensures _ c.at-amount.ensures
    l.yard _ _ inside refl c.at-haul.ensures _ c.saturating_sub.ensures in (
      l.invariant.0,
      offer_more _ _ _ _ l.yard _ l.excess inside (omega arith) is small l.invariant.1,
    )

pub overflow_mul-result : goal.overflow_mul-result
overflow_mul-result c = let small = loads_small _ _ c.at-amount.result.amount c.loads_of-loads.ensures (omega arith) (omega (arith, c.at-amount.type_inv)) in
    record { fits = lt_of_le_of_lt small (omega arith) }

pub returns : goal.returns
returns c = let l = c.loop-yard in
    let e : l.yard ≡ c.args.sheet.yards = omega arith in
    let small = loads_small _ _ c.at-amount.result.amount c.loads_of-loads.ensures (omega arith) (omega (arith, c.at-amount.type_inv)) in
    record {
      sum = sum_is _ _ _ _ _ c.args.sheet.shape c.requires.0 c.requires.2 _ c.hauls-hauls.ensures _ (c.loads_byte.ensures.loads c.requires.2) _ c.loads_of-loads.ensures _ c.at-amount.ensures;
      small = small;
      excess = (λ i below. l.invariant.1.changed i (omega arith));
    }
