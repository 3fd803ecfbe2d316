-- The places of a table: as a loop fills or changes them one by one, with one of them changed, where all hold the same, and in rows.
use Prim.Native.Nat.{ℕ, ◌+◌, ◌*◌, ◌≤◌, ◌<◌}
use native.Mathlib.Nat.{mul-le-mul, mul-le-mul_right, add-mul}
use native.Mathlib.Omega.{arith}
use native.Mathlib.Decide.{dec_lt}
use mathlib.Core.Path.{◌≡◌, sym, subst, ◌∙◌}
use mathlib.Core.List.{List}
use lib.ListN.{length, get_or, set, replicate, length-replicate, get_or-replicate, get_or-eq_default}
use lib.Seq.{get_or-set_same, get_or-set_other}
use Rattle.model.proofs.LoopLaws.{up_to}

-- a place more of a table that is filled by f
pub front_more : (f : ℕ → ℕ) (i x : ℕ) (table : List ℕ) → i < length table → x ≡ f i → ((k : ℕ) → k < i → get_or table k 0 ≡ f k)
    → (k : ℕ) → k < i + 1 → get_or (set table i x) k 0 ≡ f k
front_more f i x table room e h k l =
    up_to (λ k. get_or (set table i x) k 0 ≡ f k) i
    (λ k l. get_or-set_other table i k x 0 (λ q. omega arith) ∙ h k l)
    (get_or-set_same table i x 0 room ∙ e) k (omega arith)

-- a table that a loop changes place by place: those before i hold what Q says, those from i up to n what P says
pub record ChangedTo (P Q : ℕ → ℕ → Type 0) (n i : ℕ) (table : List ℕ) : Type 0 where
  pub changed : (k : ℕ) → k < i → Q k (get_or table k 0)
  pub still : (k : ℕ) → i ≤ k → k < n → P k (get_or table k 0)

pub changed_more : (P Q : ℕ → ℕ → Type 0) (n i x : ℕ) (table : List ℕ) → i < length table → Q i x → ChangedTo P Q n i table
    → ChangedTo P Q n (i + 1) (set table i x)
changed_more P Q n i x table room here h =
    record {
      changed = λ k l. up_to (λ k. Q k (get_or (set table i x) k 0)) i
          (λ k l. subst (Q k) (sym (get_or-set_other table i k x 0 (λ q. omega arith))) (h.changed k l))
          (subst (Q i) (sym (get_or-set_same table i x 0 room)) here) k (omega arith);
      still = λ k l b. subst (P k) (sym (get_or-set_other table i k x 0 (λ q. omega arith))) (h.still k (omega arith) b);
    }

-- what holds of every place and of x holds of every place once one is x
pub each_set : (P : ℕ → Type 0) (i x : ℕ) (table : List ℕ) → i < length table → P x → ((k : ℕ) → P (get_or table k 0))
    → (k : ℕ) → P (get_or (set table i x) k 0)
each_set P i x table room at h k =
    elim (dec_lt k i) [
      | yes l ↦ subst P (sym (get_or-set_other table i k x 0 (λ q. omega arith))) (h k)
      | no g ↦ elim (dec_lt i k) [
        | yes l ↦ subst P (sym (get_or-set_other table i k x 0 (λ q. omega arith))) (h k)
        | no f ↦ let e : i ≡ k = omega arith in subst (λ j. P (get_or (set table i x) j 0)) e (subst P (sym (get_or-set_same table i x 0 room)) at)
      ]
    ]

-- a table of n places that hold x
pub same_most : (n x k : ℕ) → get_or (replicate n x) k 0 ≤ x
same_most n x k =
    elim (dec_lt k n) [
      | yes l ↦ omega (arith, get_or-replicate {A = ℕ} n k x 0 l)
      | no g ↦ omega (arith, get_or-eq_default (replicate n x) 0 {n = k} (omega (arith, length-replicate {A = ℕ} n x)))
    ]

-- row j of n rows of m places ends within them
pub row_within : (m n j : ℕ) → j < n → j * m + m ≤ n * m
row_within m n j l = let rows : (j + 1) * m ≤ n * m = mul-le-mul_right m (omega arith) in omega (arith, add-mul j 1 m)

-- a row for each of so few clients, with a place for each of so few facilities
pub few_places : (m n : ℕ) → m ≤ 32 → n ≤ 128 → n * m ≤ 4096
few_places m n facilities clients = omega (arith, mul-le-mul clients facilities)
