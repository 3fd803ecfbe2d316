-- `reading::rates_good` meets its contract: the bands after the first are asked in turn.
use mathlib.Core.Path.{◌≡◌, refl}
use Prim.Native.Nat.{◌-◌}
use mathlib.Core.Bool.{true, false}
use borrow.Author.Rules.{rules}
use Rattle.std.proofs.lemmas.Iterator.{cases_from_all, YieldsList-from_range}
use Rattle.record.specs.Records.{records}
use Rattle.tariff.specs.Questions.{no_rise, question12}
use Rattle.tariff.proofs.QuestionLaws.{all_of_range}
use Rattle.tariff.proofs.reading.rates_good.Goals as goal

pub returns : goal.returns
unfolding question12
returns c = let t = c.args.bytes.now in
    all_of_range (no_rise t) 1 (records t - 1) _
    (cases_from_all _ _ _ (λ i. no_rise t (i - 1) ≡ true) (λ i. no_rise t (i - 1) ≡ false) c.all.ensures.ran
    (YieldsList-from_range 1 (records t) (records t - 1) refl refl) (λ i f k. search rules) (λ i f k. search rules))
