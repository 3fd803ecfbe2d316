-- `reading::bands_good` meets its contract. The invariant: every record passed is in its place, and the next band is to start where the last one ends.
use mathlib.Core.Path.{◌≡◌}
use mathlib.Core.Bool.{true}
use Rattle.model.specs.Loops.{all_below}
use Rattle.tariff.specs.Bands.{end_of}
use Rattle.tariff.specs.Questions.{band_at, band_in_place}
use Rattle.tariff.proofs.reading.bands_good.Given as goal

abbrev pub invariant-loop-i : goal.invariant-loop-i
invariant-loop-i l = (true ≡ all_below l.i (band_in_place l.bytes)) × (l.start ≡ end_of (band_at l.bytes) l.i)
