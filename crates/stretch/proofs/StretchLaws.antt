-- Laws of a farm's stretch: the part of the sheet, or nothing.
use Prim.Native.Nat.{ℕ, ◌+◌, ◌*◌, ◌≤◌, ◌<◌}
use native.Mathlib.Nat.{add-sub_cancel_left}
use native.Mathlib.Omega.{arith}
use mathlib.Core.Path.{◌≡◌, sym, ap, ◌∙◌}
use mathlib.Core.Logic.{inl, inr}
use mathlib.Core.List.{List, []}
use borrow.Author.Tests.{le-leb, lt-leb, lt-ltb, le-ltb}
use lib.ListN.{length, take, drop}
use Rattle.std.specs.Prelude.{Option, Some, None}
use Rattle.std.specs.Borrow.{Bor}
use Rattle.std.specs.Slice.{IsGetRangeResult}
use Rattle.std.specs.Option.{unwrap_or}
use Rattle.questions.specs.Bounds.{most_yards, most_farms}
use Rattle.stretch.specs.Stretch.{stretch}

module _ (s : List ℕ) (m p : ℕ) where
  pub stretch_is : m ≤ most_yards → p < most_farms → 8 * (m + p * m) + 8 * m ≤ length s → stretch s m p ≡ take (8 * m) (drop (8 * (m + p * m)) s)
  unfolding stretch
  stretch_is few below room = rw (le-leb m most_yards few, lt-ltb p most_farms below, le-leb (8 * (m + p * m) + 8 * m) (length s) room)

  pub no_such_yards : most_yards < m → stretch s m p ≡ []
  unfolding stretch
  no_such_yards many = rw (lt-leb m most_yards many)

  pub no_such_farm : m ≤ most_yards → most_farms ≤ p → stretch s m p ≡ []
  unfolding stretch
  no_such_farm few above = rw (le-leb m most_yards few, le-ltb p most_farms above)

  pub too_short : m ≤ most_yards → p < most_farms → length s < 8 * (m + p * m) + 8 * m → stretch s m p ≡ []
  unfolding stretch
  too_short few below short = rw (le-leb m most_yards few, lt-ltb p most_farms below, lt-leb (8 * (m + p * m) + 8 * m) (length s) short)

-- the part that a sheet gives between the two places, or nothing
pub stretch_got : (s : List ℕ) (m p : ℕ) (r : Option (Bor (List ℕ))) (d x : Bor (List ℕ)) → m ≤ most_yards → p < most_farms → d.now ≡ []
    → IsGetRangeResult s (8 * (m + p * m)) (8 * (m + p * m) + 8 * m) r → x ≡ unwrap_or r d → x.now ≡ stretch s m p
stretch_got s m p None d x few below empty got is =
    ap (λ (b : Bor (List ℕ)). b.now) is ∙ empty
    ∙ sym (too_short s m p few below (elim got.0 [ inl back ↦ absurd (omega arith) | inr short ↦ short ]))
stretch_got s m p (Some y) d x few below empty got is =
    ap (λ (b : Bor (List ℕ)). b.now) is ∙ got.0.2
    ∙ ap (λ (k : ℕ). take k (drop (8 * (m + p * m)) s)) (add-sub_cancel_left (8 * (m + p * m)) (8 * m))
    ∙ sym (stretch_is s m p few below got.0.1)
