-- A loop over records collects the yards of those of kind 4F.
-- Idea: yard by yard, a member of the set is one that some record passed opens.
use Prim.Native.Nat.{ℕ, ◌+◌, ◌*◌, ◌^◌, ◌≤◌, ◌<◌}
use native.Mathlib.Nat.{zero-div}
use native.Mathlib.Numerals.{add-one}
use native.Mathlib.Decide.{dec_lt}
use native.Mathlib.Omega.{arith}
use mathlib.Core.Path.{◌≡◌, sym, ap, ◌∙◌}
use mathlib.Core.Bool.{Bool, ◌||◌}
use mathlib.Core.List.{List}
use borrow.Author.Tests.{le-leb, eq-eqb, ne_eqb}
use lib.ListN.{length}
use lib.Dec.{eqb}
use Rattle.model.specs.Loops.{on}
use Rattle.model.specs.Least.{any}
use Rattle.model.specs.Sets.{member}
use Rattle.model.proofs.Bools.{cases}
use Rattle.model.proofs.SumLaws.{sum_cong}
use Rattle.model.proofs.SetLaws.{member_with, member_sum, with_below}
use Rattle.sets.specs.Within.{with32}
use Rattle.sets.proofs.WithinLaws.{with32_below, with32_above}
use Rattle.record.specs.Records.{record_at, whole_record_at}
use Rattle.record.specs.declared.Record.{Record}
use Rattle.questions.specs.Bounds.{most_yards}
use Rattle.plan_area.specs.Plan.{open_kind, opens_at}
use Rattle.plan_set.specs.Opened.{opened_by, with_record}

-- the set has the yards that the first n records open
pub record Shows (area : List ℕ) (n set : ℕ) : Type 0 where
  pub small : set < 2 ^ 32
  pub members : (yard : ℕ) → yard < most_yards → member set yard ≡ any n (opens_at area yard)

pub shows_none : (area : List ℕ) → Shows area 0 0
unfolding any member
shows_none area = record { small = omega arith; members = λ yard l. rw (zero-div (2 ^ yard)) }

-- the set with a yard
with_yard : (set y yard : ℕ) → yard < most_yards → member (with32 set y) yard ≡ (eqb y yard || member set yard)
with_yard set y yard l =
    elim (dec_lt y most_yards) [
      | yes below ↦ ap (λ (x : ℕ). member x yard) (with32_below set y below) ∙ member_with set y yard
      | no above ↦ ap (λ (x : ℕ). member x yard) (with32_above set y (omega arith)) ∙ sym (ap (λ (b : Bool). b || member set yard) (ne_eqb y yard (λ e. omega arith)))
    ]

with_small : (set y : ℕ) → set < 2 ^ 32 → with32 set y < 2 ^ 32
with_small set y small =
    elim (dec_lt y 32) [
      | yes below ↦ rw (with32_below set y below) (with_below 32 set y small below)
      | no above ↦ rw (with32_above set y (omega arith)) small
    ]

-- a record more
pub shows_more : (area : List ℕ) (n set : ℕ) → Shows area n set → Shows area (n + 1) (with_record area n set)
unfolding with_record any opens_at
shows_more area n set h =
    let r = record_at area n in
    cases (eqb r.kind open_kind)
    (λ e. record {
      small = rw e (with_small set r.yard h.small);
      members = λ yard l. rw (add-one n, e) (with_yard set r.yard yard l ∙ ap (λ (b : Bool). eqb r.yard yard || b) (h.members yard l));
    })
    (λ e. record {
      small = rw e h.small;
      members = λ yard l. rw (add-one n, e) (h.members yard l);
    })

pub shows_is : (area : List ℕ) (n set : ℕ) → Shows area n set → set ≡ opened_by area n
unfolding opened_by
shows_is area n set h =
    sym (member_sum most_yards set h.small) ∙ sum_cong most_yards (λ yard l. ap (λ (b : Bool). on b (2 ^ yard)) (h.members yard l))

-- the two cases of a record that the area holds whole
module _ (area : List ℕ) (i set : ℕ) (r : Record) (room : 8 * i + 8 ≤ length area) (e : r ≡ whole_record_at area i) where
  whole_is : record_at area i ≡ r
  unfolding whole_record_at
  whole_is = sym (rw (le-leb (8 * i + 8) (length area) room) at e)

  pub with_opened : (x : ℕ) → r.kind ≡ open_kind → x ≡ with32 set r.yard → x ≡ with_record area i set
  unfolding with_record
  with_opened x kind is = rw (whole_is, eq-eqb r.kind open_kind kind) is

  pub with_other : (r.kind ≡ open_kind → ⊥) → set ≡ with_record area i set
  unfolding with_record
  with_other kind = rw (whole_is, ne_eqb r.kind open_kind kind)
