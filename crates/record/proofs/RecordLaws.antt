-- Laws of single records: reading one that the bytes hold whole or do not, one among other bytes, one that was written; writing one
-- that fits or does not.
use Prim.Native.Nat.{ℕ, ◌+◌, ◌-◌, ◌*◌, ◌/◌, ◌%◌, ◌≤◌, ◌<◌}
use native.Mathlib.Nat.{add-zero}
use native.Mathlib.Omega.{arith}
use mathlib.Core.Path.{◌≡◌, refl, sym, ap, ◌∙◌}
use mathlib.Core.List.{List, [], ◌∷◌, ◌++◌, append_assoc}
use borrow.Author.Tests.{le-leb, lt-leb}
use lib.ListN.{length, get_or, take, drop, length-drop, get_or-append}
use borrow.Rule.Slice.PartMut.{put_mid, Post-is}
use lib.Seq.{get_or-take, get_or-drop, get_or-append-add, length-take-le}
use Rattle.record.specs.Records.{word, word_bytes, record_of, record_at, whole_record_at, bytes_of, splice, put_at, amount_end, amount_at}
use Rattle.record.specs.declared.Record.{Record}
use Rattle.record.proofs.SpliceLaws.{length_splice, splice_turn}

pub whole : (s : List ℕ) (i : ℕ) → 8 * i + 8 ≤ length s → whole_record_at s i ≡ record_at s i
unfolding whole_record_at
whole s i h = rw (le-leb (8 * i + 8) (length s) h)

pub not_whole : (s : List ℕ) (i : ℕ) → length s < 8 * i + 8 → whole_record_at s i ≡ record_of 0 0 0 0 0
unfolding whole_record_at
not_whole s i h = rw (lt-leb (8 * i + 8) (length s) h)

-- a record by its bytes
pub record_is : (r : Record) (kind yard farm byte3 : ℕ) → r.kind ≡ kind → r.yard ≡ yard → r.farm ≡ farm → r.byte3 ≡ byte3
    → r ≡ record_of kind yard farm byte3 r.amount
record_is r kind yard farm byte3 k y f b = rw (← k, ← y, ← f, ← b)

-- a byte of a part of the bytes, and a record of it, is that at its place in the whole

part_byte : (s : List ℕ) (k m i j : ℕ) → i < 8 * m → 8 * k + i ≡ j → get_or (take (8 * m) (drop (8 * k) s)) i 0 ≡ get_or s j 0
part_byte s k m i j l e =
    get_or-take (8 * m) (drop (8 * k) s) i 0 l ∙ get_or-drop (8 * k) s i 0 ∙ ap (λ x. get_or s x 0) e

pub part_record : (s : List ℕ) (k m a : ℕ) → a < m → record_at (take (8 * m) (drop (8 * k) s)) a ≡ record_at s (k + a)
unfolding record_at
part_record s k m a below =
    rw (
      part_byte s k m (8 * a) (8 * (k + a)) (omega arith) (omega arith),
      byte 1 (omega arith),
      byte 2 (omega arith),
      byte 3 (omega arith),
      byte 4 (omega arith),
      byte 5 (omega arith),
      byte 6 (omega arith),
      byte 7 (omega arith),
    )
  where
    byte : (b : ℕ) → b < 8 → get_or (take (8 * m) (drop (8 * k) s)) (8 * a + b) 0 ≡ get_or s (8 * (k + a) + b) 0
    byte b l = part_byte s k m (8 * a + b) (8 * (k + a) + b) (omega arith) (omega arith)

-- record i, read as the eight bytes of its own
pub eight_bytes : (s part : List ℕ) (i : ℕ) → 8 * i + 8 ≤ length s → part ≡ take (8 * i + 8 - 8 * i) (drop (8 * i) s) → whole_record_at part 0 ≡ record_at s i
eight_bytes s part i room cut =
    let eight : 8 * i + 8 - 8 * i ≡ 8 = omega arith in
    let e : part ≡ take 8 (drop (8 * i) s) = cut ∙ ap (λ (n : ℕ). take n (drop (8 * i) s)) eight in
    let size : length part ≡ 8 = ap length e ∙ length-take-le 8 (drop (8 * i) s) (omega (arith, length-drop (8 * i) s)) in
    whole part 0 (omega arith) ∙ ap (λ (x : List ℕ). record_at x 0) e ∙ part_record s i 1 0 (omega arith) ∙ ap (record_at s) (add-zero i)

-- its amount, read so
pub part_amount : (bytes part : List ℕ) (i : ℕ) (r : Record) → 8 * i + 8 ≤ length bytes → part ≡ take (8 * i + 8 - 8 * i) (drop (8 * i) bytes)
    → r ≡ whole_record_at part 0 → r.amount ≡ amount_at bytes i
unfolding amount_at
part_amount bytes part i r room cut read = ap (λ (x : Record). x.amount) (read ∙ eight_bytes bytes part i room cut)

-- ---- a record of bytes that stand before others, and of bytes behind k whole records

pub record_before : (xs ys : List ℕ) (i : ℕ) → 8 * i + 8 ≤ length xs → record_at (xs ++ ys) i ≡ record_at xs i
unfolding record_at
record_before xs ys i room =
    rw (byte (8 * i) (omega arith), at 1 (omega arith), at 2 (omega arith), at 3 (omega arith), at 4 (omega arith), at 5 (omega arith), at 6 (omega arith), at 7 (omega arith))
  where
    byte : (k : ℕ) → k < length xs → get_or (xs ++ ys) k 0 ≡ get_or xs k 0
    byte k l = get_or-append xs ys 0 k l

    at : (b : ℕ) → b < 8 → get_or (xs ++ ys) (8 * i + b) 0 ≡ get_or xs (8 * i + b) 0
    at b l = byte (8 * i + b) (omega arith)

pub record_behind : (xs ys : List ℕ) (k i : ℕ) → length xs ≡ 8 * k → record_at (xs ++ ys) (k + i) ≡ record_at ys i
unfolding record_at
record_behind xs ys k i e =
    rw (byte (8 * (k + i)) (8 * i) (omega arith), at 1, at 2, at 3, at 4, at 5, at 6, at 7)
  where
    byte : (x y : ℕ) → x ≡ length xs + y → get_or (xs ++ ys) x 0 ≡ get_or ys y 0
    byte x y q = ap (λ (n : ℕ). get_or (xs ++ ys) n 0) q ∙ get_or-append-add xs ys y 0

    at : (b : ℕ) → get_or (xs ++ ys) (8 * (k + i) + b) 0 ≡ get_or ys (8 * i + b) 0
    at b = byte (8 * (k + i) + b) (8 * i + b) (omega arith)

-- ---- bytes

-- every number of the list is a byte
abbrev pub Bytes : List ℕ → Type 0
Bytes s = (i : ℕ) → get_or s i 0 < 256

pub amount_small : (s : List ℕ) → Bytes s → (i : ℕ) → (record_at s i).amount < amount_end
unfolding record_at
amount_small s bytes i = omega (arith, bytes (8 * i + 4), bytes (8 * i + 5), bytes (8 * i + 6), bytes (8 * i + 7))

-- ---- a record that was written is read again

digits : (n a b c w x y z : ℕ) → n ≡ w + 256 * a → a ≡ x + 256 * b → b ≡ y + 256 * c → c ≡ z → word w x y z ≡ n
digits n a b c w x y z ew ex ey ez = omega arith

four_bytes : (n : ℕ) → n < amount_end → word (n % 256) (n / 256 % 256) (n / 65536 % 256) (n / 16777216 % 256) ≡ n
four_bytes n l =
    let third : n / 65536 ≡ n / 256 / 256 = omega arith in
    let fourth : n / 16777216 ≡ n / 256 / 256 / 256 = omega arith in
    let last : n / 256 / 256 / 256 ≡ n / 256 / 256 / 256 % 256 = omega arith in
    rw (third, fourth) (digits n (n / 256) (n / 256 / 256) (n / 256 / 256 / 256) _ _ _ _ (digit n) (digit (n / 256)) (digit (n / 256 / 256)) last)
  where
    digit : (x : ℕ) → x ≡ x % 256 + 256 * (x / 256)
    digit x = omega arith

pub read_again : (r : Record) → r.amount < amount_end → record_at (bytes_of r) 0 ≡ r
unfolding record_at bytes_of
read_again r l = ap (record_of r.kind r.yard r.farm r.byte3) (four_bytes r.amount l)

-- ---- writing one

pub put_fits : (area : List ℕ) (at : ℕ) (r : Record) → at + 8 ≤ length area → put_at area at r ≡ splice area at (bytes_of r)
unfolding put_at
put_fits area at r h = rw (le-leb (at + 8) (length area) h)

pub put_not : (area : List ℕ) (at : ℕ) (r : Record) → length area < at + 8 → put_at area at r ≡ area
unfolding put_at
put_not area at r h = rw (lt-leb (at + 8) (length area) h)

-- bytes that are copied are a splice
copied : (area part : List ℕ) (at end : ℕ) → end ≤ length area → end ≡ at + length part → put_mid at (end - at) area part ≡ splice area at part
unfolding splice
copied area part at end room e =
    rw (Post-is at end area (omega (arith, e)), ← e)
    (sym (append_assoc (take at area) part (drop end area)))

-- four bytes that are copied, and the amount's behind them, are a record
pub put_copied : (area front amount : List ℕ) (at : ℕ) (r : Record) → at + 8 ≤ length area → front ≡ r.kind ∷ r.yard ∷ r.farm ∷ r.byte3 ∷ [] → amount ≡ word_bytes r.amount
    → put_mid (at + 4) (at + 8 - (at + 4)) (put_mid at (at + 4 - at) area front) amount ≡ put_at area at r
unfolding bytes_of word_bytes
put_copied area front amount at r room e f =
    let first : put_mid at (at + 4 - at) area front ≡ splice area at front = copied area front at (at + 4) (omega arith) (rw e refl) in
    let long : length (splice area at front) ≡ length area = length_splice area at front (rw e (omega arith)) in
    rw first
    (copied (splice area at front) amount (at + 4) (at + 8) (omega (arith, long)) (rw f (omega arith))
    ∙ rw (e, f) (splice_turn area _ at (at + 4) (r.kind ∷ r.yard ∷ r.farm ∷ r.byte3 ∷ []) (word_bytes r.amount) refl refl (omega arith) ∙ sym (put_fits area at r room)))
