-- A farm's stretch of a sheet that questions 1 to 4 pass is exactly the farm's m haul records; any other stretch is empty.
use Prim.Native.Nat.{ℕ, ◌+◌, ◌*◌, ◌≤◌, ◌<◌}
use native.Mathlib.Nat.{zero-add, mul-zero}
use native.Mathlib.Omega.{arith}
use native.Mathlib.Decide.{dec_lt}
use mathlib.Core.Path.{◌≡◌, refl, sym, ap, ◌∙◌}
use mathlib.Core.List.{List, []}
use borrow.Author.Tests.{lt-ltb, le-ltb}
use lib.ListN.{length, take, drop, length-drop}
use lib.Seq.{length-take-le}
use Rattle.model.proofs.PlaceLaws.{row_within}
use Rattle.record.specs.declared.Record.{Record}
use Rattle.record.specs.Records.{record_of, record_at, whole_record_at}
use Rattle.record.proofs.RecordLaws.{whole, part_record}
use Rattle.questions.specs.Bounds.{haul_kind}
use Rattle.model.specs.Answers.{Answer, accepted, refused}
use Rattle.questions.specs.Sheet.{place, haul, loads_byte, farm_byte}
use Rattle.questions.specs.Shape.{Shape}
use Rattle.questions.specs.declared.Counts.{Counts}
use Rattle.questions.specs.Reading.{counts, form}
use Rattle.stretch.specs.Stretch.{stretch, stretch_by, farm_hauls, from_by, farm_from, HaulsFrom}
use Rattle.stretch.proofs.StretchLaws.{stretch_is}
use Rattle.questions.proofs.AcceptedLaws.{has_form, shape_of}

-- ---- for callers that have read the sheet

module _ (s : List ℕ) (m n p : ℕ) (f : Shape s m n) (below : p < n) where
  part_of : stretch s m p ≡ take (8 * m) (drop (8 * (m + p * m)) s)
  part_of = stretch_is s m p f.few_yards (omega (arith, f.few_farms)) (omega (arith, row_within m n p below, f.room))

  pub stretch_length : length (stretch s m p) ≡ 8 * m
  stretch_length =
      rw part_of
      (length-take-le (8 * m) (drop (8 * (m + p * m)) s) (omega (arith, length-drop (8 * (m + p * m)) s, row_within m n p below, f.room)))

  pub stretch_record : (a : ℕ) → a < m → record_at (stretch s m p) a ≡ record_at s (place m p a)
  stretch_record a la = rw part_of (part_record s (m + p * m) m a la)

-- the byte of a farm's loads, off the first record of its stretch
pub byte_on : (s : List ℕ) (m n p : ℕ) → Shape s m n → p < n → (hauls : List ℕ) (r : Record) → hauls ≡ stretch s m p → r ≡ whole_record_at hauls 0
    → r.byte3 ≡ farm_byte s m p
unfolding loads_byte
byte_on s m n p shape l hauls r part e =
    let long = ap length part ∙ stretch_length s m n p shape l in
    ap (λ (x : Record). x.byte3)
    (e ∙ whole hauls 0 (omega (arith, shape.some_yards)) ∙ ap (λ (x : List ℕ). record_at x 0) part ∙ stretch_record s m n p shape l 0 shape.some_yards)

-- ---- for any caller

module _ (s : List ℕ) (m n p : ℕ) (h : form s ≡ accepted (counts m n)) where
  pub farm_none : n ≤ p → farm_hauls s p ≡ []
  unfolding farm_hauls
  farm_none above = ap (λ f. stretch_by f s p) h ∙ rw (le-ltb p n above)

  module _ (below : p < n) where
    pub farm_stretch : farm_hauls s p ≡ stretch s m p
    unfolding farm_hauls
    farm_stretch = ap (λ f. stretch_by f s p) h ∙ rw (lt-ltb p n below)

    pub farm_length : length (farm_hauls s p) ≡ 8 * m
    farm_length = rw farm_stretch (stretch_length s m n p (shape_of (has_form s m n h)) below)

    pub farm_record_lem : (a : ℕ) → a < m → record_at (farm_hauls s p) a ≡ record_of haul_kind a p (loads_byte s m a p) (haul s m a p)
    farm_record_lem a la =
        let f = has_form s m n h in
        rw farm_stretch (stretch_record s m n p (shape_of f) below a la ∙ f.haul_record a p la below)

pub farm_refused : (s : List ℕ) (k p : ℕ) → form s ≡ refused k → farm_hauls s p ≡ []
unfolding farm_hauls
farm_refused s k p h = ap (λ f. stretch_by f s p) h

-- ---- where it begins

-- Its length tells where that is: so many bytes for the yards, and so many for each farm before it.
pub record BeginsAt (s : List ℕ) (p from : ℕ) : Type 0 where
  pub hauls_there : HaulsFrom s p from
  pub by_length : from ≡ length (farm_hauls s p) + p * length (farm_hauls s p)

empty_begins : (s : List ℕ) (p from : ℕ) → farm_hauls s p ≡ [] → from ≡ 0 → BeginsAt s p from
empty_begins s p from none start =
    record {
      hauls_there = (rw (none, start) (omega arith), rw none refl);
      by_length = rw (none, start, mul-zero p) refl;
    }

pub farm_begins : (s : List ℕ) (p : ℕ) → BeginsAt s p (farm_from s p)
unfolding farm_from
farm_begins s p = go (form s) refl
  where
    go : (f : Answer Counts) → form s ≡ f → BeginsAt s p (farm_from s p)
    go (refused k) e = empty_begins s p (farm_from s p) (farm_refused s k p e) (ap (λ f. from_by f p) e)
    go (accepted c) e =
        let m = c.yards in
        elim (dec_lt p c.farms) [
          | no above ↦
              empty_begins s p (farm_from s p) (farm_none s m c.farms p e (omega arith))
              (ap (λ f. from_by f p) e ∙ rw (le-ltb p c.farms (omega arith)))
          | yes below ↦
              let shape = shape_of (has_form s m c.farms e) in
              let from : farm_from s p ≡ 8 * (m + p * m) = ap (λ f. from_by f p) e ∙ rw (lt-ltb p c.farms below) in
              let long = farm_length s m c.farms p e below in
              record {
                hauls_there = (
                  rw (from, long) (omega (arith, row_within m c.farms p below, shape.room)),
                  rw (from, long) (sym (farm_stretch s m c.farms p e below ∙ part_of s m c.farms p shape below)),
                );
                by_length = rw (from, long) (omega arith);
              }
        ]

-- so whoever is told the place finds the farm's haul records there
pub hauls_told : (s : List ℕ) (m n p r a : ℕ) → form s ≡ accepted (counts m n) → p < n → a < m
    → HaulsFrom s p r → record_at (drop r s) a ≡ record_of haul_kind a p (loads_byte s m a p) (haul s m a p)
hauls_told s m n p r a good farm yard told =
    let long = farm_length s m n p good farm in
    let here : take (8 * m) (drop r s) ≡ farm_hauls s p = ap (λ (k : ℕ). take k (drop r s)) (sym long) ∙ told.1 in
    sym (part_record (drop r s) 0 m a yard ∙ ap (record_at (drop r s)) (zero-add a))
    ∙ (ap (λ (x : List ℕ). record_at x a) here ∙ farm_record_lem s m n p good farm a yard)
