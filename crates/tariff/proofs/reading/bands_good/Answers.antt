use mathlib.Core.Path.{◌≡◌, refl, sym, ◌∙◌}
use native.Mathlib.Omega.{arith}
use Rattle.model.proofs.Bools.{said_no, said_yes}
use Rattle.model.proofs.LoopLaws.{all_none, all_more, all_stops}
use Rattle.record.specs.Records.{records}
use Rattle.record.proofs.RecordLaws.{whole}
use Rattle.tariff.proofs.QuestionLaws.{odd_length, no_record, many_records, out_of_place, all_in_place, in_place_read, band_read, next_start}
use Rattle.tariff.proofs.reading.bands_good.Goals as goal

pub returns-then-bytes-ne0 : goal.returns-then-bytes-ne0
returns-then-bytes-ne0 c = sym (odd_length _ c.if-bytes-ne0.true)

pub returns-then-bytes-lt-LEN : goal.returns-then-bytes-lt-LEN
returns-then-bytes-lt-LEN c = sym (no_record _ c.if-bytes-lt-LEN.true)

pub returns-then-bytes-gt-MOST_BYTES : goal.returns-then-bytes-gt-MOST_BYTES
returns-then-bytes-gt-MOST_BYTES c = sym (many_records _ c.if-bytes-gt-MOST_BYTES.true)

pub loop-i-init : goal.loop-i-init
loop-i-init c = (all_none _, refl)

pub returns-then-not-in_place : goal.returns-then-not-in_place
returns-then-not-in_place c = let test = c.in_place.ensures ∙ in_place_read _ _ _ _ _ (c.at-record.ensures ∙ whole _ _ (omega arith)) c.from-band.ensures c.loop-i.invariant.1 in
    sym (out_of_place _ (all_stops _ _ c.loop-i.i (omega arith) (said_no test c.if-not-in_place.true)))

pub loop-i-preserved : goal.loop-i-preserved
loop-i-preserved c = let found = c.at-record.ensures ∙ whole _ _ (omega arith) in
    let test = c.in_place.ensures ∙ in_place_read _ _ _ _ _ found c.from-band.ensures c.loop-i.invariant.1 in (
      all_more _ _ c.loop-i.invariant.0 (said_yes test c.if-not-in_place.false),
      next_start _ _ _ (band_read _ _ _ _ found c.from-band.ensures),
    )

pub returns : goal.returns
returns c = let e : c.loop-i.i ≡ records c.args.bytes.now = omega arith in
    sym (all_in_place _ c.if-bytes-ne0.false c.if-bytes-lt-LEN.false c.if-bytes-gt-MOST_BYTES.false (rw e at c.loop-i.invariant.0))
