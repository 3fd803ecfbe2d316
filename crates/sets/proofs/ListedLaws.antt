-- Laws of the numbers of a list: in that of a set's numbers below m stand just these.
use Prim.Native.Nat.{ℕ, zero, suc, ◌^◌, ◌<◌}
use native.Mathlib.Nat.{le_step, lt-suc_self, not-suc-le-zero}
use native.Mathlib.Omega.{arith}
use mathlib.Core.Path.{◌≡◌, refl, sym, ap, ap₂, subst, ◌∙◌}
use mathlib.Core.Logic.{inl, inr}
use mathlib.Core.Bool.{Bool, true, false, ◌||◌}
use mathlib.Core.List.{List, [], ◌∷◌, ◌++◌}
use borrow.Author.Tests.{eqb-true}
use lib.ListN.{length, get_or, length-append, get_or-append}
use lib.Seq.{get_or-append_seam}
use lib.Dec.{eqb}
use Rattle.model.specs.Least.{any}
use Rattle.model.specs.Sets.{member}
use Rattle.model.proofs.Bools.{cases, clash, same_test, or_left, or_right, or_cases, eqb_self}
use Rattle.model.proofs.LoopLaws.{last_or}
use Rattle.model.proofs.LeastLaws.{any_cong}
use Rattle.model.proofs.SetLaws.{member_below}
use Rattle.sets.specs.Members.{rising_below, listed}
use Rattle.sets.proofs.MemberLaws.{rising_none, rising_in, rising_out}

-- a number more
listed_behind : (xs : List ℕ) (x i : ℕ) → listed (xs ++ (x ∷ [])) i ≡ eqb x i || listed xs i
unfolding listed any
listed_behind xs x i =
    let size : length (xs ++ (x ∷ [])) ≡ suc (length xs) = omega (arith, length-append xs (x ∷ [])) in
    ap (λ (k : ℕ). any k (λ t. eqb (get_or (xs ++ (x ∷ [])) t 0) i)) size
    ∙ ap₂ ◌||◌ (ap (λ (y : ℕ). eqb y i) (get_or-append_seam xs x [] 0))
    (any_cong (length xs) (λ t. eqb (get_or (xs ++ (x ∷ [])) t 0) i) (λ t. eqb (get_or xs t 0) i) (λ t l. ap (λ (y : ℕ). eqb y i) (get_or-append xs (x ∷ []) 0 t l)))

module _ (set i : ℕ) where
  below_listed : (m : ℕ) → i < m → member set i ≡ true → listed (rising_below m set) i ≡ true
  below_listed zero l e = absurd (not-suc-le-zero l)
  below_listed (suc m) l e =
      cases (member set m)
      (λ f. rw (rising_in set m f, listed_behind (rising_below m set) m i) (elim (last_or l) [
        | inl q ↦ or_left (eqb m i) (listed (rising_below m set) i) (subst (λ x. eqb m x ≡ true) (sym q) (eqb_self m))
        | inr k ↦ or_right (eqb m i) (listed (rising_below m set) i) (below_listed m k e)
      ]))
      (λ f. rw (rising_out set m f) (elim (last_or l) [ inl q ↦ clash e (rw q f) | inr k ↦ below_listed m k e ]))

  listed_below : (m : ℕ) → listed (rising_below m set) i ≡ true → (i < m) × (member set i ≡ true)
  unfolding listed any
  listed_below zero h = clash h (rw (rising_none set))
  listed_below (suc m) h =
      cases (member set m)
      (λ f. or_cases (eqb m i) (listed (rising_below m set) i) (sym (listed_behind (rising_below m set) m i) ∙ ap (λ xs. listed xs i) (sym (rising_in set m f)) ∙ h)
      (λ q. rw (sym (eqb-true m i q)) (lt-suc_self m, f)) (λ k. more (listed_below m k)))
      (λ f. more (listed_below m (ap (λ xs. listed xs i) (sym (rising_out set m f)) ∙ h)))
    where
      more : (i < m) × (member set i ≡ true) → (i < suc m) × (member set i ≡ true)
      more (l, e) = (le_step l, e)

  -- below m the list has the numbers of the set
  pub listed_rising : (m : ℕ) → i < m → listed (rising_below m set) i ≡ member set i
  listed_rising m l = same_test (λ h. (listed_below m h).1) (below_listed m l)

  -- the list of all has every number of a set of 32 bits
  pub listed_all : set < 2 ^ 32 → listed (rising_below 32 set) i ≡ member set i
  listed_all small = same_test (λ h. (listed_below 32 h).1) (λ e. below_listed 32 (member_below 32 set i small e) e)

-- ---- for a loop over a list

-- the numbers at its first t places
abbrev pub listed_up_to : List ℕ → ℕ → ℕ → Bool
listed_up_to list t i = any t (λ u. eqb (get_or list u 0) i)

pub none_yet : (list : List ℕ) (i : ℕ) → listed_up_to list 0 i ≡ false
unfolding any
none_yet list i = refl

pub at_end : (list : List ℕ) (t i : ℕ) → t ≡ length list → listed_up_to list t i ≡ listed list i
unfolding listed
at_end list t i done = ap (λ (k : ℕ). listed_up_to list k i) done
