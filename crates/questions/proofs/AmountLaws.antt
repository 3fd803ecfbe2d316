-- Single amounts as code reads them: a yard's fee, and a farm's loads times an amount.
use Prim.Native.Nat.{ℕ, ◌+◌, ◌*◌, ◌≤◌, ◌<◌}
use native.Mathlib.Nat.{mul-le-mul}
use native.Mathlib.Omega.{arith}
use mathlib.Core.Path.{◌≡◌, ap, ◌∙◌}
use mathlib.Core.List.{List}
use lib.ListN.{length}
use Rattle.model.specs.Loops.{most_term}
use Rattle.record.specs.declared.Record.{Record}
use Rattle.record.specs.Records.{whole_record_at, amount_end}
use Rattle.record.proofs.RecordLaws.{whole}
use Rattle.questions.specs.Sheet.{fee, loads_of}
use Rattle.questions.specs.Shape.{Shape}

-- where record i lies within the sheet, its amount is the fee
pub fee_read : (s : List ℕ) (i : ℕ) → 8 * i + 8 ≤ length s → (r : Record) → r ≡ whole_record_at s i → r.amount ≡ fee s i
unfolding fee
fee_read s i room r e = ap (λ (x : Record). x.amount) (e ∙ whole s i room)

-- as the record of every yard does
pub yard_fee : (s : List ℕ) (m n : ℕ) → Shape s m n → (i : ℕ) → i < m → (r : Record) → r ≡ whole_record_at s i → r.amount ≡ fee s i
yard_fee s m n f i below = fee_read s i (omega (arith, f.room))

-- the loads that a byte tells, times an amount of four bytes
pub loads_small : (loads byte amount : ℕ) → loads ≡ loads_of byte → byte < 256 → amount < amount_end → loads * amount ≤ most_term
loads_small loads byte amount e b h =
    let few : loads ≤ 255 = omega arith in
    let one : amount ≤ 4294967295 = omega arith in
    omega (arith, mul-le-mul few one)
