-- `price_given` meets its contract: the sheet is priced by the tariff, or the tariff's refusal handed on.
use mathlib.Core.Path.{sym, ap, ◌∙◌}
use Rattle.std.proofs.lemmas.Result.{err_from_is_err_and}
use Rattle.tariff.specs.Reading.{tariff_reading, ReadAs}
use Rattle.tariff.proofs.QuestionLaws.{read_accepted, read_refused, prices_fit}
use Rattle.distances.specs.Priced.{under_given}
use Rattle.distances.proofs.ReachLaws.{priced_as}
use Rattle.distances.proofs.price_given.Goals as goal

pub price_into-requires : goal.price_into-requires
price_into-requires c = let given = read_accepted (tariff_reading c.args.tariff.now) _ c.in_ok-given.ensures in
    (c.requires, prices_fit _ _ given.2)

pub returns : goal.returns
unfolding under_given
returns c = let given = read_accepted (tariff_reading c.args.tariff.now) _ c.in_ok-given.ensures in
    let priced = c.price_into in
    record { hauls = rw given.1 (priced.ensures.hauls ∙ priced_as _ _ _ given.2); room = priced.ensures.room }

pub returns-in_err-given : goal.returns-in_err-given
unfolding under_given
returns-in_err-given c = let p = err_from_is_err_and c.from_residual.result c.from_residual.ensures.1 in
    rw (p.1, p.2) record {
      hauls = rw (read_refused (tariff_reading c.args.tariff.now) _ c.in_err-given.ensures);
      room = tt;
    }
