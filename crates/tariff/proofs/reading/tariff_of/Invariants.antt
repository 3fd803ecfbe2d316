-- `reading::tariff_of` meets its contract. The invariant: the tariff is made of the bands passed, and the cost is theirs.
use mathlib.Core.Path.{◌≡◌}
use Rattle.tariff.specs.Bands.{cost_before}
use Rattle.tariff.specs.Questions.{band_at}
use Rattle.tariff.specs.Reading.{bands_of}
use Rattle.tariff.proofs.MakingLaws.{Made}
use Rattle.tariff.proofs.reading.tariff_of.Given as goal

abbrev pub invariant-loop-i : goal.invariant-loop-i
invariant-loop-i l = Made (bands_of l.bytes) l.i l.tariff × (l.cost ≡ cost_before (band_at l.bytes) l.i)
