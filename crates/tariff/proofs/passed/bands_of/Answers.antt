use mathlib.Core.Path.{◌≡◌, ap, ◌∙◌}
use native.Mathlib.Omega.{arith}
use lib.Dec.{ltb}
use lib.ListN.{length, get_or, take}
use lib.Seq.{get_or-take, length-take-le}
use Rattle.model.specs.Loops.{on}
use Rattle.tariff.specs.Bounds.{most_bands}
use Rattle.tariff.proofs.PassedLaws.{counted_none, counted_more, counted_le, counted_all}
use borrow.Author.Rules.{rules}
use Rattle.tariff.proofs.passed.bands_of.Goals as goal

pub loop-end-init : goal.loop-end-init
loop-end-init c = (search rules, counted_none c.args.tariff.ends c.args.distances)

pub count_end-requires : goal.count_end-requires
count_end-requires c = λ k l.
    let all : length c.args.tariff.ends ≡ most_bands = search rules in
    let few : length (take c.min-last.result c.args.tariff.ends) ≡ c.min-last.result = length-take-le _ _ (omega (arith, c.min-last.ensures)) in
    omega (arith, c.loop-end.invariant.1 k l, counted_le c.args.tariff.ends c.loop-end.end-index (get_or c.args.distances k 0), c.min-last.ensures)

pub loop-end-preserved : goal.loop-end-preserved
loop-end-preserved c =
    let all : length c.args.tariff.ends ≡ most_bands = search rules in
    let few : length (take c.min-last.result c.args.tariff.ends) ≡ c.min-last.result = length-take-le _ _ (omega (arith, c.min-last.ensures)) in
    let this = get_or-take c.min-last.result c.args.tariff.ends c.loop-end.end-index 0 (omega arith) in
    (c.count_end.array_long, λ k l. c.count_end.ensures k l ∙ counted_more _ c.loop-end.end-index _ _ _ (c.loop-end.invariant.1 k l) (ap (λ end. on (ltb end (get_or c.args.distances k 0)) 1) this))

pub returns : goal.returns
returns c =
    let all : length c.args.tariff.ends ≡ most_bands = search rules in
    let few : length (take c.min-last.result c.args.tariff.ends) ≡ c.min-last.result = length-take-le _ _ (omega (arith, c.min-last.ensures)) in
    let passed : c.loop-end.end-index ≡ c.min-last.result = omega arith in
    λ k l. rw passed at (c.loop-end.invariant.1 k l) ∙ counted_all c.args.tariff (get_or c.args.distances k 0) c.min-last.result c.min-last.ensures
