-- Laws of what came and what went: the two numbers in which a set and the next one differ are those of the move between them.
use Prim.Native.Nat.{ℕ, zero, suc, ◌≤◌, ◌<◌}
use native.Mathlib.Nat.{le_step, lt-suc_self, lt_of_lt_of_le}
use native.Mathlib.Numerals.{add-one}
use native.Mathlib.Omega.{arith}
use native.Mathlib.Decide.{dec_lt}
use mathlib.Core.Path.{◌≡◌, refl, sym, ap, ◌∙◌}
use mathlib.Core.Bool.{Bool, true, false, not, ◌&&◌, ◌||◌, and-false}
use borrow.Author.Tests.{ne_eqb, eqb-true}
use lib.Dec.{eqb}
use Rattle.model.specs.Loops.{leading}
use Rattle.model.specs.Sets.{member}
use Rattle.model.proofs.Bools.{clash, fails, eqb_self, Eq?, same, diff, test}
use Rattle.model.proofs.LoopLaws.{leading_none, leading_more, leading_stops}
use Rattle.model.proofs.SetLaws.{member_with, member_without, member_trade}
use Rattle.model.proofs.NeighbourLaws.{Move, added, dropped, swapped}
use Rattle.engine.specs.Near.{new_at, new_in, Moved}

-- a test that holds of every index before k; and of k no more
leading_all : (p : ℕ → Bool) (k : ℕ) → ((i : ℕ) → i < k → p i ≡ true) → leading k p ≡ k
leading_all p zero h = leading_none p
leading_all p (suc k) h =
    rw (← add-one k) (leading_more p k (leading_all p k (λ i l. h i (le_step l))) (h k (lt-suc_self k)))

leading_is : (p : ℕ → Bool) (n k : ℕ) → k ≤ n → ((i : ℕ) → i < k → p i ≡ true) → (k < n → p k ≡ false) → leading n p ≡ k
leading_is p n k l before at =
    elim (dec_lt k n) [
      | yes b ↦ leading_stops p n k (leading_all p k before) b (at b)
      | no g ↦ let e : n ≡ k = omega arith in rw e (leading_all p k before)
    ]

-- i is not new
abbrev pub old : ℕ → ℕ → ℕ → Bool
old before after i = not (new_at before after i)

module _ (before after i : ℕ) where
  pub new_stops : member after i ≡ true → member before i ≡ false → old before after i ≡ false
  unfolding new_at
  new_stops is_in_lem was_out = rw (is_in_lem, was_out)

  pub old_in : member before i ≡ true → old before after i ≡ true
  unfolding new_at
  old_in was_in = rw (was_in, and-false (member after i))

  pub old_out : member after i ≡ false → old before after i ≡ true
  unfolding new_at
  old_out out = rw out

new_is : (before after k : ℕ) → k ≤ 32 → ((i : ℕ) → i < k → new_at before after i ≡ false) → (k < 32 → new_at before after k ≡ true)
    → new_in before after ≡ k
unfolding new_in
new_is before after k l none at =
    leading_is (old before after) 32 k l (λ i b. ap not (none i b)) (λ b. ap not (at b))

module _ (set next came went : ℕ) (moved : Moved 32 set next came went) where
  apart : came < 32 → eqb went came ≡ false
  apart l = fails (λ e. let q = eqb-true went came e in clash (moved.goes (omega arith)) (rw q (moved.comes l)))

  -- what came is new, what went is new the other way round, and they alone are
  came_new : came ≤ 32 → new_in set next ≡ came
  unfolding new_at
  came_new few = new_is set next came few
      (λ i l. rw (moved.after i (lt_of_lt_of_le l few), ne_eqb came i (λ q. omega arith)) (shut (not (eqb went i)) (member set i)))
      (λ l. rw (moved.after came l, eqb_self came, moved.comes l, apart l))
    where
      shut : (a s : Bool) → (a && s) && not s ≡ false
      shut true true = refl
      shut true false = refl
      shut false s = refl

  went_new : went ≤ 32 → new_in next set ≡ went
  unfolding new_at
  went_new few = new_is next set went few
      (λ i l. rw (moved.after i (lt_of_lt_of_le l few), ne_eqb went i (λ q. omega arith)) (shut (eqb came i) (member set i)))
      (λ l. rw (moved.after went l, eqb_self went, moved.goes l))
    where
      shut : (a s : Bool) → s && not (a || s) ≡ false
      shut true true = refl
      shut true false = refl
      shut false true = refl
      shut false false = refl

  -- so they are found, whatever the number of facilities
  moved_new : (m : ℕ) → m ≤ 32 → came ≤ 32 → went ≤ 32 → Moved m set next (new_in set next) (new_in next set)
  moved_new m few few_came few_went =
      rw (came_new few_came, went_new few_went)
      (record {
        after = λ k l. moved.after k (lt_of_lt_of_le l few);
        comes = λ l. moved.comes (lt_of_lt_of_le l few);
        goes = λ l. moved.goes (lt_of_lt_of_le l few);
      })

pub moved_is : (m set next : ℕ) → m ≤ 32 → Move m set next → Moved m set next (new_in set next) (new_in next set)
moved_is m set next few (added o l e is) = moved_new set next o 32 (record {
  after = λ k b. rw (is, member_with set o k, ne_eqb 32 k (λ q. omega arith));
  comes = λ b. e;
  goes = λ b. absurd (omega arith);
}) m few (omega arith) (omega arith)
moved_is m set next few (dropped f l e some is) = moved_new set next 32 f (record {
  after = λ k b. rw (is, member_without set f k, ne_eqb 32 k (λ q. omega arith));
  comes = λ b. absurd (omega arith);
  goes = λ b. e;
}) m few (omega arith) (omega arith)
moved_is m set next few (swapped f o lf ef lo eo is) = moved_new set next o f (record {
  after = λ k b. rw (is, member_trade set f o k) (traded k (eqb o k) (test o k) (eqb f k) (test f k));
  comes = λ b. eo;
  goes = λ b. ef;
}) m few (omega arith) (omega arith)
  where
    traded : (k : ℕ) (a : Bool) → Eq? o k a → (b : Bool) → Eq? f k b → (a || (not b && member set k)) ≡ (not b && (a || member set k))
    traded k true (same p) true (same q) = clash ef (rw (q ∙ sym p) eo)
    traded k true (same p) false (diff q) = refl
    traded k false (diff p) b r = refl
