-- `choice_of` meets its contract: both records are read as parts, of the stretch and of the yards' records.
use native.Mathlib.Omega.{arith}
use mathlib.Core.Path.{refl, ap₂, ◌∙◌}
use Prim.Native.Nat.{◌<◌}
use borrow.Author.Rules.{rules}
use borrow.Author.Tests.{lt-ltb, le-ltb}
use Rattle.record.specs.Records.{amount_end}
use Rattle.record.proofs.RecordLaws.{part_amount}
use Rattle.nearest.specs.Nearest.{yards_on}
use Rattle.nearest.specs.Choices.{choice, choice_of}
use Rattle.nearest.proofs.choice_of.Goals as goal

pub returns-then-min-at : goal.returns-then-min-at
unfolding choice_of
returns-then-min-at c = let a = c.args in
    record {
      choice = rw (le-ltb a.yard (yards_on a.fees.now a.hauls.now) (omega arith));
      small = (search rules, (λ l. absurd (omega arith)));
    }

pub returns : goal.returns
unfolding choice_of
returns c = let haul = part_amount c.args.hauls.now _ c.args.yard _ (omega arith) refl c.at-haul.ensures in
    let fee = part_amount c.args.fees.now _ c.args.yard _ (omega arith) refl c.at-fee.ensures in
    let haul_fits : c.at-haul.result.amount < amount_end = omega (arith, c.at-haul.type_inv) in
    let fee_fits : c.at-fee.result.amount < amount_end = omega (arith, c.at-fee.type_inv) in
    record {
      choice = ap₂ (choice c.args.yard) haul fee ∙ rw (lt-ltb c.args.yard (yards_on c.args.fees.now c.args.hauls.now) (omega arith));
      small = (omega (arith, c.ranges.yard), (λ l. (omega (arith, haul), omega (arith, fee))));
    }
