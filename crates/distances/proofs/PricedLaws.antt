-- The sheet of hauls, record by record: a priced record keeps all but the amount of a haul, and stands where the record stood.
use Prim.Native.Nat.{ℕ, zero, suc, ◌*◌, ◌<◌}
use native.Mathlib.Nat.{le_step, lt-suc_self, not-suc-le-zero, add-zero}
use native.Mathlib.Omega.{arith}
use mathlib.Core.Path.{◌≡◌, sym, ap, ◌∙◌}
use mathlib.Core.Logic.{◌⊎◌, inl, inr}
use mathlib.Core.List.{List, ◌++◌}
use borrow.Author.Tests.{eqb-true, eq-eqb, ne_eqb}
use lib.Dec.{eqb}
use lib.ListN.{length}
use Rattle.model.specs.Loops.{join}
use Rattle.model.proofs.Bools.{cases}
use Rattle.model.proofs.LoopLaws.{last_or, length_join, join_cong}
use Rattle.record.specs.declared.Record.{Record}
use Rattle.record.specs.Records.{records, record_of, record_at, bytes_of, amount_end}
use Rattle.record.proofs.SpliceLaws.{length_bytes}
use Rattle.record.proofs.RecordLaws.{record_before, record_behind, read_again}
use Rattle.questions.specs.Bounds.{haul_kind}
use Rattle.distances.specs.Priced.{priced_record, priced_at, priced_sheet}

-- ---- single records

module _ (f : ℕ → ℕ) (r : Record) where
  pub priced_haul : r.kind ≡ haul_kind → priced_record f r ≡ record_of r.kind r.yard r.farm r.byte3 (f r.amount)
  unfolding priced_record
  priced_haul h = rw (eq-eqb r.kind haul_kind h)

  pub priced_other : ¬ (r.kind ≡ haul_kind) → priced_record f r ≡ r
  unfolding priced_record
  priced_other h = rw (ne_eqb r.kind haul_kind h)

  pub keeps_kind : (priced_record f r).kind ≡ r.kind
  unfolding priced_record
  keeps_kind = cases (eqb r.kind haul_kind) (λ e. rw e) (λ e. rw e)

  pub keeps_yard : (priced_record f r).yard ≡ r.yard
  unfolding priced_record
  keeps_yard = cases (eqb r.kind haul_kind) (λ e. rw e) (λ e. rw e)

  pub keeps_farm : (priced_record f r).farm ≡ r.farm
  unfolding priced_record
  keeps_farm = cases (eqb r.kind haul_kind) (λ e. rw e) (λ e. rw e)

  pub keeps_byte3 : (priced_record f r).byte3 ≡ r.byte3
  unfolding priced_record
  keeps_byte3 = cases (eqb r.kind haul_kind) (λ e. rw e) (λ e. rw e)

-- two prices that agree on the distance of a haul give the same record
pub same_price : (f g : ℕ → ℕ) (r : Record) → (r.kind ≡ haul_kind → f r.amount ≡ g r.amount) → priced_record f r ≡ priced_record g r
unfolding priced_record
same_price f g r h =
    cases (eqb r.kind haul_kind)
    (λ e. rw e (ap (record_of r.kind r.yard r.farm r.byte3) (h (eqb-true r.kind haul_kind e))))
    (λ e. rw e)

-- ---- the sheet

module _ (f : ℕ → ℕ) (s : List ℕ) where
  pub length_priced : (i : ℕ) → length (priced_at f s i) ≡ 8
  unfolding priced_at
  length_priced i = length_bytes (priced_record f (record_at s i))

  joined_length : (n : ℕ) → length (join n (priced_at f s)) ≡ 8 * n
  joined_length n = omega (arith, length_join n 8 (priced_at f s) (λ i l. length_priced i))

  pub sheet_length : length (priced_sheet f s) ≡ 8 * records s
  unfolding priced_sheet
  sheet_length = joined_length (records s)

  module _ (fits : (i : ℕ) → i < records s → (priced_record f (record_at s i)).amount < amount_end) where
    joined_at : (n i : ℕ) → ((k : ℕ) → k < n → k < records s) → i < n → record_at (join n (priced_at f s)) i ≡ priced_record f (record_at s i)
    unfolding join priced_at
    joined_at zero i within l = absurd (not-suc-le-zero l)
    joined_at (suc n) i within l = go (last_or l) (joined_at n i (λ k b. within k (le_step b)))
      where
        here : record_at (join n (priced_at f s) ++ bytes_of (priced_record f (record_at s n))) n ≡ priced_record f (record_at s n)
        here =
            ap (record_at (join n (priced_at f s) ++ bytes_of (priced_record f (record_at s n)))) (sym (add-zero n))
            ∙ record_behind (join n (priced_at f s)) (bytes_of (priced_record f (record_at s n))) n 0 (joined_length n)
            ∙ read_again (priced_record f (record_at s n)) (fits n (within n (lt-suc_self n)))

        go : (i ≡ n) ⊎ (i < n) → (i < n → record_at (join n (priced_at f s)) i ≡ priced_record f (record_at s i))
            → record_at (join n (priced_at f s) ++ bytes_of (priced_record f (record_at s n))) i ≡ priced_record f (record_at s i)
        go (inl e) before = rw e here
        go (inr k) before =
            record_before (join n (priced_at f s)) (bytes_of (priced_record f (record_at s n))) i (omega (arith, joined_length n)) ∙ before k

    -- record i of the sheet of hauls is that of the sheet of distances, priced
    pub priced_record_at : (i : ℕ) → i < records s → record_at (priced_sheet f s) i ≡ priced_record f (record_at s i)
    unfolding priced_sheet
    priced_record_at i l = joined_at (records s) i (λ k b. b) l

-- two prices that agree on every distance of a sheet give the same sheet
pub same_sheet : (f g : ℕ → ℕ) (s : List ℕ) → ((i : ℕ) → i < records s → (record_at s i).kind ≡ haul_kind → f (record_at s i).amount ≡ g (record_at s i).amount)
    → priced_sheet f s ≡ priced_sheet g s
unfolding priced_sheet priced_at
same_sheet f g s h = join_cong (records s) (priced_at f s) (priced_at g s) (λ i l. ap bytes_of (same_price f g (record_at s i) (h i l)))
