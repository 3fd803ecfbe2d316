-- Laws of the member of least value by two values, one after the other: it is the only one, and how a loop over numbers keeps it.
use Prim.Native.Nat.{ℕ, ◌≤◌, ◌<◌}
use native.Mathlib.Nat.{le_refl}
use native.Mathlib.Omega.{arith}
use native.Mathlib.Decide.{dec_lt}
use mathlib.Core.Path.{◌≡◌, refl, sym, subst, ◌∙◌}
use mathlib.Core.Bool.{Bool, true, false}
use borrow.Author.Tests.{eqb-true}
use lib.Dec.{eqb, ltb}
use Rattle.model.specs.Least.{any}
use Rattle.model.specs.Sets.{plus}
use Rattle.model.proofs.Bools.{clash, or_cases, Lt?, less, more, test<}
use Rattle.model.proofs.TestSetLaws.{plus_old, plus_new}
use Rattle.model.proofs.LeastLaws.{none_of}

-- a is a member below m, of least c; of the members with the same c none has a lesser o, and those before it have a greater one
pub record LeastThen (m : ℕ) (S : ℕ → Bool) (c o : ℕ → ℕ) (a : ℕ) : Type 0 where
  pub below : a < m
  pub is_in_lem : S a ≡ true
  pub lowest : (k : ℕ) → k < m → S k ≡ true → c a ≤ c k
  pub cheapest : (k : ℕ) → k < m → S k ≡ true → c k ≡ c a → o a ≤ o k
  pub first : (k : ℕ) → k < a → S k ≡ true → c k ≡ c a → o a < o k

module _ (S : ℕ → Bool) (c o : ℕ → ℕ) where
  -- no two members are so
  pub then_is : (m a b : ℕ) → LeastThen m S c o a → LeastThen m S c o b → a ≡ b
  then_is m a b r q = at (ltb a b) (test< a b) (ltb b a) (test< b a)
    where
      level : c a ≡ c b
      level = omega (arith, r.lowest b q.below q.is_in_lem, q.lowest a r.below r.is_in_lem)

      at : (x : Bool) → Lt? a b x → (y : Bool) → Lt? b a y → a ≡ b
      at true (less l) y t = absurd (omega (arith, q.first a l r.is_in_lem level, r.cheapest b q.below q.is_in_lem (sym level)))
      at false (more l) true (less k) = absurd (omega (arith, r.first b k q.is_in_lem (sym level), q.cheapest a r.below r.is_in_lem level))
      at false (more l) false (more k) = omega arith

  -- a set that agrees below m
  pub then_agree : (T : ℕ → Bool) (m a : ℕ) → ((i : ℕ) → i < m → T i ≡ S i) → LeastThen m S c o a → LeastThen m T c o a
  then_agree T m a agree r =
      record {
        below = r.below;
        is_in_lem = agree a r.below ∙ r.is_in_lem;
        lowest = λ k l e. r.lowest k l (sym (agree k l) ∙ e);
        cheapest = λ k l e q. r.cheapest k l (sym (agree k l) ∙ e) q;
        first = λ k l e q. r.first k l (sym (agree k (omega (arith, r.below))) ∙ e) q;
      }

  -- ---- a number x more

  -- x comes no later than a: its c is no higher, where the c are the same its o is no higher, and where both are the same its number is no higher
  abbrev pub NoLater : ℕ → ℕ → Type 0
  NoLater x a = (c x ≤ c a) × (c x ≡ c a → o x ≤ o a) × (c x ≡ c a → o x ≡ o a → x ≤ a)

  module _ (m x : ℕ) (within : x < m) where
    -- what holds of x and of the members of S holds of the members of S with x
    each : (P : ℕ → Type 0) → P x → ((k : ℕ) → S k ≡ true → P k) → (k : ℕ) → plus S x k ≡ true → P k
    each P here there k e = or_cases (eqb x k) (S k) e (λ q. subst P (eqb-true x k q) here) (there k)

    -- where S has none below m
    pub then_only : any m S ≡ false → LeastThen m (plus S x) c o x
    then_only none =
        record {
          below = within;
          is_in_lem = plus_new S x x refl;
          lowest = λ k l e. each (λ k. k < m → c x ≤ c k) (λ l. le_refl (c x)) (λ k f l. clash f (none_of m k S none l)) k e l;
          cheapest = λ k l e. each (λ k. k < m → c k ≡ c x → o x ≤ o k) (λ l q. le_refl (o x)) (λ k f l. clash f (none_of m k S none l)) k e l;
          first = λ k l e. each (λ k. k < x → c k ≡ c x → o x < o k) (λ l. absurd (omega arith)) (λ k f l. clash f (none_of m k S none (omega arith))) k e l;
        }

    module _ (a : ℕ) (r : LeastThen m S c o a) where
      -- where x comes no later than the one of S
      pub then_taken : NoLater x a → LeastThen m (plus S x) c o x
      then_taken (no_higher, no_dearer, no_later) =
          record {
            below = within;
            is_in_lem = plus_new S x x refl;
            lowest = λ k l e. each (λ k. k < m → c x ≤ c k) (λ l. le_refl (c x)) (λ k f l. omega (arith, r.lowest k l f, no_higher)) k e l;
            cheapest = λ k l e. each (λ k. k < m → c k ≡ c x → o x ≤ o k) (λ l q. le_refl (o x)) dearer k e l;
            first = λ k l e. each (λ k. k < x → c k ≡ c x → o x < o k) (λ l. absurd (omega arith)) later k e l;
          }
        where
          level : (k : ℕ) → S k ≡ true → k < m → c k ≡ c x → c x ≡ c a
          level k f l q = omega (arith, r.lowest k l f, no_higher)

          dearer : (k : ℕ) → S k ≡ true → k < m → c k ≡ c x → o x ≤ o k
          dearer k f l q = let e = level k f l q in omega (arith, no_dearer e, r.cheapest k l f (q ∙ e))

          later : (k : ℕ) → S k ≡ true → k < x → c k ≡ c x → o x < o k
          later k f l q =
              let e = level k f (omega arith) q in
              elim (dec_lt k a) [
                | yes b ↦ omega (arith, no_dearer e, r.first k b f (q ∙ e))
                | no g ↦ elim (dec_lt (o x) (o a)) [
                  | yes b ↦ omega (arith, r.cheapest k (omega arith) f (q ∙ e))
                  | no h ↦ absurd (omega (arith, no_later e (omega (arith, no_dearer e))))
                ]
              ]

      -- where it does not come before the one of S
      pub then_kept : NoLater a x → LeastThen m (plus S x) c o a
      then_kept (no_higher, no_dearer, no_later) =
          record {
            below = r.below;
            is_in_lem = plus_old S x a r.is_in_lem;
            lowest = λ k l e. each (λ k. k < m → c a ≤ c k) (λ l. no_higher) (λ k f l. r.lowest k l f) k e l;
            cheapest = λ k l e. each (λ k. k < m → c k ≡ c a → o a ≤ o k) (λ l q. no_dearer (sym q)) (λ k f l. r.cheapest k l f) k e l;
            first = λ k l e. each (λ k. k < a → c k ≡ c a → o a < o k) (λ l q. before l (sym q)) (λ k f l. r.first k l f) k e l;
          }
        where
          before : x < a → c a ≡ c x → o a < o x
          before l e = elim (dec_lt (o a) (o x)) [
            | yes b ↦ b
            | no g ↦ absurd (omega (arith, no_later e (omega (arith, no_dearer e))))
          ]
