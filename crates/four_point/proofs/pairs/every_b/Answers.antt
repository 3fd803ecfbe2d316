-- `pairs::every_b` meets its contract: what `all` tells of the numbers below a.
use Rattle.std.proofs.Common.{rules, ◌∙◌, refl, arith}
use Rattle.std.proofs.lemmas.Iterator.{YieldsList-from_range}
use Rattle.std.proofs.lemmas.Iterator.Search.{all_from_yields_List}
use Rattle.model.proofs.RangeLaws.{all_range}
use Rattle.four_point.specs.Rounded.{pair_keeps, row_keeps}
use Rattle.four_point.proofs.pairs.every_b.Goals as goal

pub returns : goal.returns
unfolding row_keeps
returns c = let a = c.args in
    let p = pair_keeps a.table.now a.n a.a in
    all_from_yields_List p _ _ c.all.result c.all.ensures.ran (YieldsList-from_range 0 a.a a.a refl (omega arith)) (λ x b q k. search rules)
    ∙ all_range a.a p
