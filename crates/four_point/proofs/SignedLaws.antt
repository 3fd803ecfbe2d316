-- Numbers in the lower half of a width have the same order as signed numbers.
use Prim.Native.Nat.{ℕ, ◌^◌, ◌≤◌, ◌<◌}
use mathlib.Core.Path.{◌≡◌, sym, ap₂, ◌∙◌}
use mathlib.Core.Bool.{true, false}
use mir.Syntax.{Width}
use mir.Val.{hbits, to_z}
use mir.ValLaws.{to_z_pos}
use borrow.Author.Tests.{leb-true, leb-false}
use lib.Dec.{leb}
use lib.Signed.{le_z}

module _ (w : Width) (x y : ℕ) (low_x : x < 2 ^ hbits w) (low_y : y < 2 ^ hbits w) where
  signed_test : le_z (to_z w x) (to_z w y) ≡ leb x y
  signed_test = ap₂ le_z (to_z_pos w x low_x) (to_z_pos w y low_y)

  pub signed_le : le_z (to_z w x) (to_z w y) ≡ true → x ≤ y
  signed_le e = leb-true x y (sym signed_test ∙ e)

  pub signed_gt : le_z (to_z w x) (to_z w y) ≡ false → y < x
  signed_gt e = leb-false x y (sym signed_test ∙ e)
