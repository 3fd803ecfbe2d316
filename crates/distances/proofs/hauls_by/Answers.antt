-- `hauls_by` meets its contract: the arms of the `match` are the cases of `sheet_by`.
use mathlib.Core.Path.{sym, ap, ◌∙◌}
use Rattle.tariff.specs.House.{house}
use Rattle.tariff.proofs.QuestionLaws.{prices_fit}
use Rattle.distances.specs.Priced.{sheet_by}
use Rattle.distances.proofs.ReachLaws.{priced_as}
use Rattle.distances.proofs.CallLaws.{enough_room, short_room}
use Rattle.distances.proofs.hauls_by.Goals as goal

pub returns-then-hauls-lt-MOST_BYTES : goal.returns-then-hauls-lt-MOST_BYTES
returns-then-hauls-lt-MOST_BYTES c = record { hauls = sym (short_room _ _ _ _ c.if-hauls-lt-MOST_BYTES.true); room = tt }

pub price_into-requires : goal.price_into-requires
price_into-requires c = (c.if-hauls-lt-MOST_BYTES.false, prices_fit house _ c.house_tariff.ensures.prices)

pub returns-in-NoTariff : goal.returns-in-NoTariff
unfolding sheet_by
returns-in-NoTariff c = let a = c.args in
    record {
      hauls = ap (λ by. sheet_by by a.tariff.now a.sheet.now) (sym c.in-NoTariff.is) ∙ sym (enough_room _ _ _ _ c.if-hauls-lt-MOST_BYTES.false);
      room = tt;
    }

pub returns-in-HouseTariff : goal.returns-in-HouseTariff
unfolding sheet_by
returns-in-HouseTariff c = let priced = c.price_into in
    let a = c.args in record {
      hauls = priced.ensures.hauls ∙ priced_as house _ _ c.house_tariff.ensures.prices ∙ ap (λ by. sheet_by by a.tariff.now a.sheet.now) (sym c.in-HouseTariff.is)
          ∙ sym (enough_room _ _ _ _ c.if-hauls-lt-MOST_BYTES.false);
      room = priced.ensures.room;
    }

pub returns-in-GivenTariff : goal.returns-in-GivenTariff
unfolding sheet_by
returns-in-GivenTariff c = let priced = c.price_given in
    let a = c.args in
    record {
      hauls = priced.ensures.hauls ∙ ap (λ by. sheet_by by a.tariff.now a.sheet.now) (sym c.in-GivenTariff.is) ∙ sym (enough_room _ _ _ _ c.if-hauls-lt-MOST_BYTES.false);
      room = priced.ensures.room;
    }
