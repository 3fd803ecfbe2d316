-- `costs::pair_keeps` meets its contract: what a pass finds is the cheapest route and the greatest difference.
use Prim.Native.Nat.{◌-◌, ◌*◌}
use mathlib.Core.Path.{ap₂, ◌∙◌}
use mathlib.Core.List.{map-id}
use native.Mathlib.Omega.{arith}
use lib.Dec.{leb}
use Rattle.model.proofs.QuickMetricLaws.{quick_from}
use Rattle.four_point.specs.Table.{cost_limit}
use Rattle.four_point.specs.Rounded.{pair_keeps}
use Rattle.four_point.proofs.costs.pair_keeps.Goals as goal

pub pass-passed-requires-clause-a_low : goal.pass-passed-requires-clause-a_low
pass-passed-requires-clause-a_low c = rw (map-id c.args.table.now) c.requires.2

pub pass-passed-requires-clause-b_low : goal.pass-passed-requires-clause-b_low
pass-passed-requires-clause-b_low c = rw (map-id c.args.table.now) c.requires.3

pub returns : goal.returns
unfolding pair_keeps
returns c = let p = c.pass-passed.ensures in
    let same = map-id c.args.table.now in
    ap₂ leb (rw same at p.spread) (rw same at p.route)
    ∙ quick_from c.args.n _ _ (2 * cost_limit - 1) (λ q b. omega (arith, c.requires.2 q b, c.requires.3 q b))
