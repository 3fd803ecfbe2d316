-- `bands::Band::whole_charge` meets its contract: two numbers of two bytes have a product that fits four.
use mathlib.Core.Path.{ap₂, ◌∙◌}
use Prim.Native.Nat.{◌*◌}
use Rattle.tariff.specs.Bands.{whole_charge}
use Rattle.tariff.proofs.bands.Band.whole_charge.Goals as goal

pub returns : goal.returns
unfolding whole_charge
returns c = ap₂ ◌*◌ (c.from.ensures ∙ c.saturating_sub.ensures) c.from-2.ensures
