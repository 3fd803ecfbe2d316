-- Laws of the calls' answers, case by case.
use Rattle.std.proofs.Common.{◌≡◌, ℕ, ◌+◌, ◌<◌, ◌≤◌, true, false, ◌&&◌, leb, List, length, sym, refl, ap, ◌∙◌, arith, le-leb, leb-true}
use borrow.Author.Tests.{lt-leb}
use Rattle.model.proofs.Bools.{and_left, and_right}
use Rattle.rows.specs.Shifts.{columns, fits, above_at, between_at, raised, lowered, shifted, two_fit, shifted_in, shifted_out}

-- ---- room

pub fits_tested : (from end : ℕ) → leb (from + columns) end ≡ fits from end
unfolding fits
fits_tested from end = refl

pub fits_never : (from end most : ℕ) → most < from → end ≤ most + columns → leb from most ≡ fits from end
unfolding fits
fits_never from end most far ends = lt-leb from most far ∙ sym (lt-leb (from + columns) end (omega arith))

pub fits_true : (from end : ℕ) → fits from end ≡ true → from + columns ≤ end
unfolding fits
fits_true from end e = leb-true (from + columns) end e

pub fits_when : (from end : ℕ) → from + columns ≤ end → fits from end ≡ true
unfolding fits
fits_when from end l = le-leb (from + columns) end l

-- ---- one stretch

module _ (costs : List ℕ) (plus minus : ℕ) (sums : List ℕ) (at : ℕ) where
  pub no_row : length costs < columns → sums ≡ shifted costs plus minus sums at
  unfolding shifted
  no_row l = rw (lt-leb columns (length costs) l)

  pub no_room_for_sums : columns ≤ length costs → fits at (length sums) ≡ false → sums ≡ shifted costs plus minus sums at
  unfolding shifted
  no_room_for_sums r e = rw (le-leb columns (length costs) r, e)

  pub shifts_up : (after : List ℕ) → columns ≤ length costs → fits at (length sums) ≡ true → plus ≤ minus
      → after ≡ raised (between_at costs plus minus) at sums → after ≡ shifted costs plus minus sums at
  unfolding shifted
  shifts_up after r e ordered up = rw (le-leb columns (length costs) r, e, le-leb plus minus ordered) up

  pub shifts_down : (after : List ℕ) → columns ≤ length costs → fits at (length sums) ≡ true → minus < plus
      → after ≡ lowered (between_at costs minus plus) at sums → after ≡ shifted costs plus minus sums at
  unfolding shifted
  shifts_down after r e ordered down = rw (le-leb columns (length costs) r, e, lt-leb plus minus ordered) down

-- ---- two stretches

module _ (costs : List ℕ) (sums : List ℕ) (added more : ℕ) where
  pub two_lack_row : length costs < columns → two_fit costs sums added more ≡ false
  unfolding two_fit
  two_lack_row l = rw (lt-leb columns (length costs) l)

  pub two_overlap : columns ≤ length costs → fits added more ≡ false → two_fit costs sums added more ≡ false
  unfolding two_fit
  two_overlap r e = rw (le-leb columns (length costs) r, e)

  -- the tests made one after the other
  pub two_is : columns ≤ length costs → fits added more ≡ true → two_fit costs sums added more ≡ fits more (length sums)
  unfolding two_fit
  two_is r a = rw (le-leb columns (length costs) r, a)

  -- where both have room
  pub record Room : Type 0 where
    pub row : columns ≤ length costs
    pub apart : added + columns ≤ more
    pub room : more + columns ≤ length sums

  pub two_room : two_fit costs sums added more ≡ true → Room
  unfolding two_fit
  two_room e = let b = and_right (leb columns (length costs)) (fits added more && fits more (length sums)) e in
      record {
        row = leb-true columns (length costs) (and_left (leb columns (length costs)) _ e);
        apart = fits_true added more (and_left (fits added more) (fits more (length sums)) b);
        room = fits_true more (length sums) (and_right (fits added more) (fits more (length sums)) b);
      }

  pub two_fit_lem : columns ≤ length costs → fits added more ≡ true → fits more (length sums) ≡ true
      → two_fit costs sums added more ≡ true
  unfolding two_fit
  two_fit_lem r a e = rw (le-leb columns (length costs) r, a, e)

  module _ (first second : ℕ) where
    pub in_refused : two_fit costs sums added more ≡ false → sums ≡ shifted_in costs first second sums added more
    unfolding shifted_in
    in_refused e = rw e

    pub out_refused : two_fit costs sums added more ≡ false → sums ≡ shifted_out costs first second sums added more
    unfolding shifted_out
    out_refused e = rw e

    pub in_shifted : (mid after : List ℕ) → two_fit costs sums added more ≡ true → mid ≡ lowered (above_at costs first) added sums
        → after ≡ raised (between_at costs first second) more mid → after ≡ shifted_in costs first second sums added more
    unfolding shifted_in
    in_shifted mid after e one two = rw e (two ∙ ap (raised (between_at costs first second) more) one)

    pub out_shifted : (mid after : List ℕ) → two_fit costs sums added more ≡ true → mid ≡ raised (above_at costs first) added sums
        → after ≡ lowered (between_at costs first second) more mid → after ≡ shifted_out costs first second sums added more
    unfolding shifted_out
    out_shifted mid after e one two = rw e (two ∙ ap (lowered (between_at costs first second) more) one)
