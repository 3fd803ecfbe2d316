-- `units::pair_settled` meets its contract: what a pass finds is the cheapest route and the greatest difference.
use mathlib.Core.Path.{ap₂}
use mathlib.Core.List.{map-id}
use lib.Dec.{ltb}
use Rattle.four_point.specs.Rounded.{pair_settled}
use Rattle.four_point.proofs.units.pair_settled.Goals as goal

pub pass-passed-requires-clause-a_low : goal.pass-passed-requires-clause-a_low
pass-passed-requires-clause-a_low c = rw (map-id c.args.units.now) c.requires.2

pub pass-passed-requires-clause-b_low : goal.pass-passed-requires-clause-b_low
pass-passed-requires-clause-b_low c = rw (map-id c.args.units.now) c.requires.3

pub returns : goal.returns
unfolding pair_settled
returns c = let p = c.pass-passed.ensures in
    let same = map-id c.args.units.now in
    ap₂ ltb (rw same at p.spread) (rw same at p.route)
