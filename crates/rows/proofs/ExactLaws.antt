-- What the calls make of the sums where nothing wraps: costs in the lower half of 32 bits, and sums that neither fall below 0 nor reach 2 ^ 64.
-- A sum then takes on what its cost is above `plus`, and gives what it is above `minus`. Callers cite `exactly_shifted`, `exactly_in` and `exactly_out`.
use Rattle.std.proofs.Common.{◌≡◌, ℕ, ◌+◌, ◌-◌, ◌%◌, ◌<◌, ◌≤◌, Bool, cond, leb, List, length, get_or, sym, refl, ap, ◌∙◌, subst, ap₂, arith, le-ltb, lt-ltb, leb-false, leb-true}
use Rattle.model.proofs.Bools.{cases}
use Rattle.rows.specs.Shifts.{columns, cost_end, half_end, word_end, less, above, above_at, between_at, rise, fall, raised, lowered, shifted, shifted_in, shifted_out}
use Rattle.rows.proofs.ChangeLaws.{changed_length, changed_below, changed_above, changed_inside}
use Rattle.rows.proofs.CallLaws.{fits_when, shifts_up, shifts_down, two_fit_lem, in_shifted, out_shifted}

-- ---- what is asked, and what follows

-- The 32 sums from `at` on can each take on what its cost is above `plus`, and then give what it is above `minus`.
pub record Shiftable (cost : ℕ → ℕ) (plus minus : ℕ) (sums : List ℕ) (at : ℕ) : Type 0 where
  pub costs_low : (i : ℕ) → i < columns → cost i < half_end
  pub plus_low : plus < half_end
  pub minus_low : minus < half_end
  pub room : at + columns ≤ length sums
  pub enough : (i : ℕ) → i < columns → cost i - minus ≤ get_or sums (at + i) 0 + (cost i - plus)
  pub small : (i : ℕ) → i < columns → get_or sums (at + i) 0 + (cost i - plus) < word_end

-- they have done so, and the others are as they were
pub record Shifted (cost : ℕ → ℕ) (plus minus : ℕ) (before : List ℕ) (at : ℕ) (after : List ℕ) : Type 0 where
  pub inside : (i : ℕ) → i < columns → get_or after (at + i) 0 + (cost i - minus) ≡ get_or before (at + i) 0 + (cost i - plus)
  pub below : (k : ℕ) → k < at → get_or after k 0 ≡ get_or before k 0
  pub above : (k : ℕ) → at + columns ≤ k → get_or after k 0 ≡ get_or before k 0

-- two stretches have, each by its own two costs
pub record ShiftedBoth (cost : ℕ → ℕ) (plus₁ minus₁ plus₂ minus₂ : ℕ) (before : List ℕ) (at₁ at₂ : ℕ) (after : List ℕ) : Type 0 where
  pub first : (i : ℕ) → i < columns → get_or after (at₁ + i) 0 + (cost i - minus₁) ≡ get_or before (at₁ + i) 0 + (cost i - plus₁)
  pub second : (i : ℕ) → i < columns → get_or after (at₂ + i) 0 + (cost i - minus₂) ≡ get_or before (at₂ + i) 0 + (cost i - plus₂)
  pub below : (k : ℕ) → k < at₁ → get_or after k 0 ≡ get_or before k 0
  pub between : (k : ℕ) → at₁ + columns ≤ k → k < at₂ → get_or after k 0 ≡ get_or before k 0
  pub above : (k : ℕ) → at₂ + columns ≤ k → get_or after k 0 ≡ get_or before k 0

-- ---- differences

exact_less : (a b : ℕ) → b ≤ a → a < cost_end → less a b ≡ a - b
unfolding less
exact_less a b ordered small = omega arith

exact_above : (a b : ℕ) → a < half_end → b < half_end → above a b ≡ a - b
unfolding above less
exact_above a b low_a low_b =
    let d = (a + cost_end - b) % cost_end in
    cases (leb b a)
    (λ e. let l = leb-true b a e in ap (λ (t : Bool). cond t d 0) (lt-ltb d half_end (omega arith)) ∙ omega arith)
    (λ e. let l = leb-false b a e in ap (λ (t : Bool). cond t d 0) (le-ltb d half_end (omega arith)) ∙ omega arith)

-- What the sums change by, and what the costs are above `high`, come to what they are above `low`.
abbrev Part : (ℕ → ℕ) → ℕ → ℕ → (ℕ → ℕ) → Type 0
Part cost low high by = (i : ℕ) → i < columns → by i + (cost i - high) ≡ cost i - low

module _ (costs : List ℕ) (cost : ℕ → ℕ) (costs_are : (i : ℕ) → i < columns → get_or costs i 0 ≡ cost i)
    (costs_low : (i : ℕ) → i < columns → cost i < half_end) (low : ℕ) (low_low : low < half_end) where
  above_part : (top : ℕ) → ((i : ℕ) → i < columns → cost i ≤ top) → Part cost low top (above_at costs low)
  unfolding above_at
  above_part top within i l =
      omega (arith, ap (λ (c : ℕ). above c low) (costs_are i l), exact_above (cost i) low (costs_low i l) low_low, within i l)

  between_part : (high : ℕ) → low ≤ high → high < half_end → Part cost low high (between_at costs low high)
  unfolding between_at
  between_part high ordered low_high i l =
      let c = cost i in
      let small = costs_low i l in
      omega (
        arith,
        ap (λ (c : ℕ). less (above c low) (above c high)) (costs_are i l),
        ap₂ less (exact_above c low small low_low) (exact_above c high small low_high),
        exact_less (c - low) (c - high) (omega arith) (omega arith),
      )

-- ---- a stretch

module _ {cost : ℕ → ℕ} {low high : ℕ} (by : ℕ → ℕ) (part : Part cost low high by) {sums : List ℕ} {at : ℕ} where
  exactly_raised : Shiftable cost low high sums at → Shifted cost low high sums at (raised by at sums)
  unfolding rise
  exactly_raised can =
      record {
        inside = λ i l. omega (arith, changed_inside (rise by) at sums i can.room l, part i l, can.small i l);
        below = changed_below (rise by) at sums;
        above = changed_above (rise by) at sums;
      }

  exactly_lowered : Shiftable cost high low sums at → Shifted cost high low sums at (lowered by at sums)
  unfolding fall
  exactly_lowered can =
      record {
        inside = λ i l. omega (arith, changed_inside (fall by) at sums i can.room l, part i l, can.small i l, can.enough i l);
        below = changed_below (fall by) at sums;
        above = changed_above (fall by) at sums;
      }

-- ---- two stretches, the first of which ends by the second

module _ {cost : ℕ → ℕ} {plus₁ minus₁ plus₂ minus₂ : ℕ} {before mid : List ℕ} {at₁ at₂ : ℕ} (apart : at₁ + columns ≤ at₂)
    (one : Shifted cost plus₁ minus₁ before at₁ mid) where
  still_shiftable : length mid ≡ length before → Shiftable cost plus₂ minus₂ before at₂ → Shiftable cost plus₂ minus₂ mid at₂
  still_shiftable long can =
      record {
        costs_low = can.costs_low;
        plus_low = can.plus_low;
        minus_low = can.minus_low;
        room = omega (arith, can.room);
        enough = λ i l. omega (arith, can.enough i l, one.above (at₂ + i) (omega arith));
        small = λ i l. omega (arith, can.small i l, one.above (at₂ + i) (omega arith));
      }

  both_shifted : {after : List ℕ} → Shifted cost plus₂ minus₂ mid at₂ after → ShiftedBoth cost plus₁ minus₁ plus₂ minus₂ before at₁ at₂ after
  both_shifted two =
      record {
        first = λ i l. ap (λ (x : ℕ). x + (cost i - minus₁)) (two.below (at₁ + i) (omega arith)) ∙ one.inside i l;
        second = λ i l. two.inside i l ∙ ap (λ (x : ℕ). x + (cost i - plus₂)) (one.above (at₂ + i) (omega arith));
        below = λ k l. two.below k (omega arith) ∙ one.below k l;
        between = λ k l h. two.below k h ∙ one.above k l;
        above = λ k l. two.above k l ∙ one.above k (omega arith);
      }

-- ---- the calls, on a row that holds the cost of each column

module _ (costs : List ℕ) (cost : ℕ → ℕ) (row_room : columns ≤ length costs) (costs_are : (i : ℕ) → i < columns → get_or costs i 0 ≡ cost i) where
  pub exactly_shifted : {plus minus : ℕ} {sums : List ℕ} {at : ℕ} {after : List ℕ} → Shiftable cost plus minus sums at
      → after ≡ shifted costs plus minus sums at → Shifted cost plus minus sums at after
  exactly_shifted {plus} {minus} {sums} {at} can is =
      let sums_fit = fits_when at (length sums) can.room in
      cases (leb plus minus)
      (λ e. let l = leb-true plus minus e in
      let part = between_part costs cost costs_are can.costs_low plus can.plus_low minus l can.minus_low in
      subst (Shifted cost plus minus sums at) (shifts_up costs plus minus sums at _ row_room sums_fit l refl ∙ sym is)
      (exactly_raised (between_at costs plus minus) part can))
      (λ e. let l = leb-false plus minus e in
      let part = between_part costs cost costs_are can.costs_low minus can.minus_low plus (omega arith) can.plus_low in
      subst (Shifted cost plus minus sums at) (shifts_down costs plus minus sums at _ row_room sums_fit l refl ∙ sym is)
      (exactly_lowered (between_at costs minus plus) part can))

  -- no cost is above `top`
  module _ {top first second : ℕ} {sums : List ℕ} {added more : ℕ} {after : List ℕ} (within : (i : ℕ) → i < columns → cost i ≤ top)
      (apart : added + columns ≤ more) (ordered : first ≤ second) where
    pub exactly_in : Shiftable cost top first sums added → Shiftable cost first second sums more
        → after ≡ shifted_in costs first second sums added more → ShiftedBoth cost top first first second sums added more after
    exactly_in can can₂ is =
        let room = two_fit_lem costs sums added more row_room (fits_when added more apart) (fits_when more (length sums) can₂.room) in
        let one =
        exactly_lowered (above_at costs first) (above_part costs cost costs_are can.costs_low first can.minus_low top within) can
        in
        let two =
        exactly_raised (between_at costs first second)
        (between_part costs cost costs_are can.costs_low first can.minus_low second ordered can₂.minus_low)
        (still_shiftable apart one (changed_length _ added sums) can₂)
        in
        subst (ShiftedBoth cost top first first second sums added more)
        (in_shifted costs sums added more first second _ _ room refl refl ∙ sym is) (both_shifted apart one two)

    pub exactly_out : Shiftable cost first top sums added → Shiftable cost second first sums more
        → after ≡ shifted_out costs first second sums added more → ShiftedBoth cost first top second first sums added more after
    exactly_out can can₂ is =
        let room = two_fit_lem costs sums added more row_room (fits_when added more apart) (fits_when more (length sums) can₂.room) in
        let one =
        exactly_raised (above_at costs first) (above_part costs cost costs_are can.costs_low first can.plus_low top within) can
        in
        let two =
        exactly_lowered (between_at costs first second)
        (between_part costs cost costs_are can.costs_low first can.plus_low second ordered can₂.plus_low)
        (still_shiftable apart one (changed_length _ added sums) can₂)
        in
        subst (ShiftedBoth cost first top second first sums added more)
        (out_shifted costs sums added more first second _ _ room refl refl ∙ sym is) (both_shifted apart one two)
