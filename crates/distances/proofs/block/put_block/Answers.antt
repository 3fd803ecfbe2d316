use mathlib.Core.Path.{◌≡◌, ap, ◌∙◌}
use Prim.Native.Nat.{◌+◌, ◌*◌}
use native.Mathlib.Omega.{arith}
use lib.ListN.{length, get_or}
use Rattle.record.specs.Records.{records}
use Rattle.record.proofs.WriteLaws.{put_one, filled_none, filled_more}
use Rattle.tariff.specs.Pricing.{line_of, price_of}
use Rattle.distances.specs.Priced.{priced_record, priced_at, priced_sheet}
use Rattle.distances.proofs.PricedLaws.{length_priced, sheet_length}
use Rattle.distances.proofs.BlockLaws.{band_number_lem, line_read, line_fits, put_is, whole_area}
use Rattle.distances.proofs.block.put_block.Goals as goal

pub loop-k-init : goal.loop-k-init
loop-k-init c = filled_none _ _ _

pub bounds-by-band : goal.bounds-by-band
bounds-by-band c = omega (arith, c.from-band.ensures, band_number_lem c.args.by _ _ _ c.requires.4 c.bands_of-bands.ensures c.loop-k.k (omega arith) (omega arith))

pub bounds-by-band-in-loop-k : goal.bounds-by-band-in-loop-k
bounds-by-band-in-loop-k c = omega (arith, c.from-band.ensures, band_number_lem c.args.by _ _ _ c.requires.4 c.bands_of-bands.ensures c.loop-k.k (omega arith) (omega arith))

pub overflow_cast-haul : goal.overflow_cast-haul
overflow_cast-haul c = let fits = line_fits c.args.by _ _ _ c.requires.4 c.bands_of-bands.ensures c.loop-k.k (omega arith) (omega arith) c.requires.3 in
    let is : c.from.result + c.from-in-loop-k.result * c.from-in-loop-k-2.result ≡ line_of c.args.by.rates c.args.by.intercepts (get_or c.bands_of-bands.result c.loop-k.k 0) (get_or c.args.distances c.loop-k.k 0) = line_read c.args.by (get_or c.bands_of-bands.result c.loop-k.k 0) _ (get_or c.args.distances c.loop-k.k 0) _ _ _ c.from-band.ensures c.from.ensures c.from-in-loop-k.ensures c.from-in-loop-k-2.ensures in
    omega arith

pub loop-k-preserved : goal.loop-k-preserved
unfolding priced_at
loop-k-preserved c = let a = c.args in
    let long : length (priced_at (price_of a.by) a.part.now c.loop-k.k) ≡ 8 = length_priced (price_of a.by) a.part.now c.loop-k.k in
    let is : c.from.result + c.from-in-loop-k.result * c.from-in-loop-k-2.result ≡ line_of a.by.rates a.by.intercepts (get_or c.bands_of-bands.result c.loop-k.k 0) (get_or a.distances c.loop-k.k 0) = line_read c.args.by (get_or c.bands_of-bands.result c.loop-k.k 0) _ (get_or c.args.distances c.loop-k.k 0) _ _ _ c.from-band.ensures c.from.ensures c.from-in-loop-k.ensures c.from-in-loop-k-2.ensures in
    let same = put_is a.by _ _ _ c.requires.4 c.bands_of-bands.ensures c.loop-k.k (omega arith) (omega arith) _ _ c.record_within.ensures (c.priced_record-record.ensures ∙ ap (λ haul. priced_record (λ d. haul) c.record_within.result) is) in
    filled_more _ _ _ c.loop-k.hauls _ _ _ c.loop-k.k c.loop-k.invariant (omega (arith, long)) (omega arith) (omega (arith, long))
    (put_one c.loop-k.hauls _ _ _ _ (omega arith) same c.put.ensures)

pub returns : goal.returns
unfolding priced_sheet
returns c = let a = c.args in
    let all : c.loop-k.k ≡ records a.part.now = omega arith in
    rw all at c.loop-k.invariant.parts ∙ whole_area a.hauls.now _ (omega (arith, sheet_length (price_of a.by) a.part.now))
