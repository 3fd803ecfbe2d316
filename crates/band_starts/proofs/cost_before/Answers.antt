-- `cost_before` meets its contract: the bands before band i are charged whole, one after the other.
use mathlib.Core.Path.{◌≡◌, ◌∙◌}
use Prim.Native.Nat.{◌<◌, ◌^◌}
use lib.ListN.{take}
use borrow.Author.Rules.{rules}
use Rattle.std.proofs.iter.runs.Made.{chains}
use Rattle.std.specs.List.{sum_by}
use Rattle.tariff.specs.Bands.{whole_charge}
use Rattle.tariff.specs.House.{house_bands}
use Rattle.tariff.proofs.HouseLaws.{charges_fit, charges_are}
use Rattle.band_starts.proofs.cost_before.Goals as goal

pub sum-requires-clause-fits : goal.sum-requires-clause-fits
sum-requires-clause-fits c =
    let fits : sum_by (λ b. whole_charge b) (take c.args.i house_bands) < 2 ^ 32 = charges_fit c.args.i c.requires in
    search (rules, chains)

pub returns : goal.returns
returns c =
    let charged : c.sum.result ≡ sum_by (λ b. whole_charge b) (take c.args.i house_bands) = search (rules, chains) in
    charged ∙ charges_are c.args.i c.requires
