-- `pairs::every_pair` meets its contract: what `all` tells of the numbers below m.
use Rattle.std.proofs.Common.{rules, ◌∙◌, refl, arith}
use Rattle.std.proofs.lemmas.Iterator.{YieldsList-from_range}
use Rattle.std.proofs.lemmas.Iterator.Search.{all_from_yields_List}
use Rattle.model.proofs.RangeLaws.{all_range}
use Rattle.four_point.specs.Rounded.{row_keeps}
use Rattle.four_point.proofs.pairs.every_pair.Goals as goal

pub returns : goal.returns
returns c = let a = c.args in
    let p = row_keeps a.table.now a.n in
    all_from_yields_List p _ _ c.all.result c.all.ensures.ran (YieldsList-from_range 0 a.m a.m refl (omega arith)) (λ x b q k. search rules)
    ∙ all_range a.m p
