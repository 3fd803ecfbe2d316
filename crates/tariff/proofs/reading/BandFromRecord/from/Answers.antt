-- The band of a record is that of its fields, each half of the amount.
use mathlib.Core.Path.{ap}
use native.Mathlib.Omega.{arith}
use Prim.Native.Nat.{◌%◌, ◌/◌}
use Rattle.tariff.specs.Bounds.{half_word}
use Rattle.tariff.specs.Bands.{band_by}
use Rattle.tariff.specs.Questions.{band_of}
use Rattle.tariff.proofs.reading.BandFromRecord.from.Goals as goal

pub returns : goal.returns
unfolding band_of
returns c = let held = c.args.held in
    ap (λ start. band_by start (held.amount % half_word) (held.amount / half_word)) (omega (arith, c.from_le_bytes.ensures))
