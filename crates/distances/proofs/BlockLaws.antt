-- Laws of the pass over the records, block by block.
use Prim.Native.Nat.{ℕ, ◌+◌, ◌-◌, ◌*◌, ◌/◌, ◌%◌, ◌≤◌, ◌<◌}
use native.Mathlib.Omega.{arith}
use mathlib.Core.Path.{◌≡◌, sym, ap, ap₂, ◌∙◌}
use mathlib.Core.Bool.{true, false}
use mathlib.Core.List.{List, ◌++◌, append_assoc, append-nil}
use borrow.Author.Tests.{leb-true, le-leb, lt-leb}
use borrow.Rule.Slice.PartMut.{put_mid}
use lib.Dec.{leb}
use lib.ListN.{length, get_or, take, drop, length-drop, drop_of_length-le}
use lib.Seq.{length-take-le, drop-drop}
use Rattle.model.specs.Loops.{all_below, join}
use Rattle.model.proofs.LoopLaws.{all_at, all_fails, all_stops, all_plus, all_cong, join_none, join_plus, join_cong, length_join}
use Rattle.record.specs.declared.Record.{Record}
use Rattle.record.specs.Records.{records, record_at, bytes_of, splice, amount_end}
use Rattle.record.proofs.RecordLaws.{part_record}
use Rattle.record.proofs.SpliceLaws.{splice_none, splice_turn, splice_is, splice_front}
use Rattle.tariff.specs.declared.bands.Tariff.{Tariff}
use Rattle.tariff.specs.Bounds.{block, most_bands}
use Rattle.tariff.specs.Pricing.{band_passed, line_of, price_of}
use Rattle.tariff.proofs.PassedLaws.{band_below}
use Rattle.distances.specs.Priced.{priced_record, priced_at, priced_sheet}
use Rattle.distances.specs.Blocks.{distance_of, within_reach, NearRecords}
use Rattle.distances.proofs.PricedLaws.{same_price, length_priced}
use Rattle.distances.proofs.ReachLaws.{distance_haul}

-- ---- a record that was read

module _ (s : List ℕ) (reach k d : ℕ) (is : d ≡ distance_of (record_at s k)) where
  pub near_read : d ≤ reach → within_reach reach s k ≡ true
  unfolding within_reach
  near_read h = le-leb (distance_of (record_at s k)) reach (omega (arith, is))

  pub far_read : reach < d → within_reach reach s k ≡ false
  unfolding within_reach
  far_read h = lt-leb (distance_of (record_at s k)) reach (omega (arith, is))

-- ---- a record that is written

-- the line of a band, read number by number
pub line_read : (by : Tariff) (number band d i x r : ℕ) → band ≡ number → i ≡ get_or by.intercepts band 0 → x ≡ d → r ≡ get_or by.rates band 0
    → i + x * r ≡ line_of by.rates by.intercepts number d
line_read by number band d i x r e f g h = rw (f, g, h, e)

module _ (by : Tariff) (s distances bands : List ℕ) (taken : NearRecords by.reach s distances)
    (found : (k : ℕ) → k < block → get_or bands k 0 ≡ band_passed by (get_or distances k 0)) (k : ℕ) (l : k < records s) (room : k < block) where
  pub band_number_lem : get_or bands k 0 < most_bands
  band_number_lem = omega (arith, found k room, band_below by (get_or distances k 0))

  near : get_or distances k 0 ≤ by.reach
  unfolding within_reach
  near = omega (arith, taken.distances_are k l, leb-true (distance_of (record_at s k)) by.reach (all_at (within_reach by.reach s) (records s) k taken.near l))

  -- the line of the band that was found
  line_is : line_of by.rates by.intercepts (get_or bands k 0) (get_or distances k 0) ≡ price_of by (get_or distances k 0)
  unfolding price_of
  line_is = ap (λ (band : ℕ). line_of by.rates by.intercepts band (get_or distances k 0)) (found k room)

  pub line_fits : ((d : ℕ) → d ≤ by.reach → price_of by d < amount_end) → line_of by.rates by.intercepts (get_or bands k 0) (get_or distances k 0) < amount_end
  line_fits small = rw line_is (small (get_or distances k 0) near)

  pub put_is : (held r : Record) → held ≡ record_at s k → r ≡ priced_record (λ d. line_of by.rates by.intercepts (get_or bands k 0) (get_or distances k 0)) held
      → r ≡ priced_record (price_of by) (record_at s k)
  put_is held r e p =
      let line = line_of by.rates by.intercepts (get_or bands k 0) (get_or distances k 0) in
      p ∙ ap (priced_record (λ d. line)) e
      ∙ same_price (λ d. line) (price_of by) (record_at s k)
      (λ kind. line_is ∙ ap (price_of by) (taken.distances_are k l ∙ distance_haul (record_at s k) kind))

-- ---- blocks one behind the other

-- bytes written over a part of an area are a splice
written_over : (area bytes : List ℕ) (at k : ℕ) → length bytes ≡ k → put_mid at k area bytes ≡ splice area at bytes
written_over area bytes at k long =
    sym (append_assoc (take at area) bytes (drop k (drop at area)))
    ∙ ap (λ (rest : List ℕ). take at area ++ bytes ++ rest) (drop-drop k at area ∙ ap (λ (n : ℕ). drop (at + n) area) (sym long))
    ∙ sym (splice_is area at bytes)

-- an area that is filled from its start to its end
pub whole_area : (area bytes : List ℕ) → length bytes ≡ length area → splice area 0 bytes ≡ bytes
whole_area area bytes long = splice_front area bytes ∙ ap (λ (rest : List ℕ). bytes ++ rest) (drop_of_length-le area {i = length bytes} (omega arith)) ∙ append-nil bytes

-- the block from byte `at` to byte `end`, of whole records
module _ (s : List ℕ) (at end : ℕ) (starts : at % 8 ≡ 0) (ends : end % 8 ≡ 0) (up : at ≤ end) (room : end ≤ length s) where
  abbrev part : List ℕ
  part = take (end - at) (drop at s)

  -- how many records are before it, and how many in it
  abbrev before : ℕ
  before = at / 8

  abbrev n : ℕ
  n = (end - at) / 8

  pub part_length : length part ≡ end - at
  part_length = length-take-le (end - at) (drop at s) (omega (arith, length-drop at s))

  size : records part ≡ n
  size = omega (arith, part_length)

  same_record : (k : ℕ) → k < n → record_at part k ≡ record_at s (before + k)
  same_record k l =
      let long : end - at ≡ 8 * n = omega arith in
      let from : at ≡ 8 * before = omega arith in
      ap₂ (λ (j m : ℕ). record_at (take j (drop m s)) k) long from ∙ part_record s before n k l

  module _ (reach : ℕ) where
    near_part : all_below (records part) (within_reach reach part) ≡ all_below n (λ k. within_reach reach s (before + k))
    unfolding within_reach
    near_part =
        ap (λ (m : ℕ). all_below m (within_reach reach part)) size
        ∙ all_cong n (within_reach reach part) (λ k. within_reach reach s (before + k)) (λ k l. ap (λ (r : Record). leb (distance_of r) reach) (same_record k l))

    -- the m records up to the end of the block
    pub near_more : (m : ℕ) → m ≡ end / 8 → true ≡ all_below before (within_reach reach s) → all_below (records part) (within_reach reach part) ≡ true
        → true ≡ all_below m (within_reach reach s)
    near_more m e near h =
        let sum : m ≡ before + n = omega arith in
        rw (sum, all_plus before n (within_reach reach s), ← near, ← near_part, h)

    -- a block with a distance too long, of m records in all
    pub far_more : (m : ℕ) → end / 8 ≤ m → all_below (records part) (within_reach reach part) ≡ false → all_below m (within_reach reach s) ≡ false
    far_more m l h =
        let far = all_fails (λ k. within_reach reach s (before + k)) n (sym near_part ∙ h) in
        all_stops (within_reach reach s) m (before + far.0) (omega (arith, far.1)) far.2

  module _ (f : ℕ → ℕ) where
    priced_part : priced_sheet f part ≡ join n (λ k. priced_at f s (before + k))
    unfolding priced_sheet priced_at
    priced_part =
        ap (λ (m : ℕ). join m (priced_at f part)) size
        ∙ join_cong n (priced_at f part) (λ k. priced_at f s (before + k)) (λ k l. ap (λ (r : Record). bytes_of (priced_record f r)) (same_record k l))

    pub priced_more : (m : ℕ) (lent area written : List ℕ) → m ≡ end / 8 → area ≡ splice lent 0 (join before (priced_at f s)) → end ≤ length lent
        → written ≡ priced_sheet f part → put_mid at (end - at) area written ≡ splice lent 0 (join m (priced_at f s))
    priced_more m lent area written e passed fits put =
        let sum : m ≡ before + n = omega arith in
        let long : length (join before (priced_at f s)) ≡ before * 8 = length_join before 8 (priced_at f s) (λ k l. length_priced f s k) in
        let all : written ≡ join n (λ k. priced_at f s (before + k)) = put ∙ priced_part in
        let size_of : length written ≡ n * 8 = ap length all ∙ length_join n 8 (λ k. priced_at f s (before + k)) (λ k l. length_priced f s (before + k)) in
        written_over area written at (end - at) (omega arith)
        ∙ ap (splice area at) all
        ∙ splice_turn lent area 0 at (join before (priced_at f s)) (join n (λ k. priced_at f s (before + k))) passed (omega arith) (omega arith)
        ∙ ap (splice lent 0) (sym (join_plus before n (priced_at f s)) ∙ ap (λ (k : ℕ). join k (priced_at f s)) (sym sum))

pub priced_none : (f : ℕ → ℕ) (s lent : List ℕ) → lent ≡ splice lent 0 (join 0 (priced_at f s))
priced_none f s lent = rw join_none (sym (splice_none lent 0))
