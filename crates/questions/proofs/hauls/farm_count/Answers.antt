-- `hauls::farm_count` meets its contract: `farms` in the code's terms.
use native.Mathlib.Omega.{arith}
use mathlib.Core.Path.{sym, ap, ◌∙◌}
use Prim.Native.Nat.{ℕ, ◌-◌, ◌/◌}
use Rattle.record.specs.Records.{records}
use Rattle.questions.proofs.FormLaws.{yards_le, farms_are_hauls}
use Rattle.questions.proofs.hauls.farm_count.Goals as goal

pub overflow_sub-result : goal.overflow_sub-result
overflow_sub-result c = omega (arith, yards_le c.args.sheet.now)

pub returns : goal.returns
returns c = let s = c.args.sheet.now in
    ap (λ (m : ℕ). (records s - m) / m) c.requires.0 ∙ sym (farms_are_hauls s)
