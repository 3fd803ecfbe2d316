-- The questions put to a tariff (document 02, paper 3): "1 to 16 records of kind 42 hex: byte 1 the band number from 0, bytes 2 and 3 its
-- start, 4 and 5 its end, .. 6 and 7 its rate .., each lowest byte first. Band 0 starts at 0 and each band at its predecessor's end."
use Rattle.std.specs.Prelude.{ℕ, suc, ◌+◌, ◌-◌, ◌*◌, ◌/◌, ◌%◌, Bool, ◌&&◌, List, length, eqb, leb, ltb}
use Rattle.model.specs.Loops.{all_below}
use Rattle.record.specs.Records.{records, record_at}
use Rattle.record.specs.declared.Record.{Record}
use Rattle.tariff.specs.declared.bands.Band.{Band}
use Rattle.tariff.specs.Bounds.{band_kind, most_tariff_bytes, half_word}
use Rattle.tariff.specs.Bands.{band_by, end_of}

-- The band of a record. A record has bytes 2 and 3 as its farm and its byte 3, and bytes 4 to 7 as one number, the amount, whose lower half
-- are 4 and 5.
unfoldable pub band_of : Record → Band
band_of r = band_by (r.farm + 256 * r.byte3) (r.amount % half_word) (r.amount / half_word)

unfoldable pub band_at : List ℕ → ℕ → Band
band_at t i = band_of (record_at t i)

-- 11. Is the length a multiple of 8, from 8 to 128 bytes, and has every record kind 42 hex and the number of its place, is its start 0 or
-- its predecessor's end, and its end above its start?
unfoldable pub tariff_length : List ℕ → Bool
tariff_length t = eqb (length t % 8) 0 && (leb 8 (length t) && leb (length t) most_tariff_bytes)

-- of record i with this band, which is to start there
unfoldable pub in_place : Record → Band → ℕ → ℕ → Bool
in_place r b i start = eqb r.kind band_kind && (eqb r.yard i && (eqb b.start start && ltb b.start b.end))

unfoldable pub band_in_place : List ℕ → ℕ → Bool
band_in_place t i = in_place (record_at t i) (band_at t i) i (end_of (band_at t) i)

unfoldable pub question11 : List ℕ → Bool
question11 t = tariff_length t && all_below (records t) (band_in_place t)

-- 12. Is no rate above that of the band before it?
unfoldable pub no_rise : List ℕ → ℕ → Bool
no_rise t i = leb (band_at t (suc i)).rate (band_at t i).rate

unfoldable pub question12 : List ℕ → Bool
question12 t = all_below (records t - 1) (no_rise t)
