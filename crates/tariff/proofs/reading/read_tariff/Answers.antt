-- `reading::read_tariff` meets its contract: each `return` is a case of `tariff_reading`.
use mathlib.Core.Path.{refl}
use Rattle.model.proofs.Bools.{said_no, said_yes}
use Rattle.tariff.proofs.QuestionLaws.{refused_11, refused_12, accepts_tariff}
use Rattle.tariff.proofs.reading.read_tariff.Goals as goal

pub returns-then-not-bands_good : goal.returns-then-not-bands_good
returns-then-not-bands_good c = rw (refused_11 _ (said_no c.bands_good.ensures c.if-not-bands_good.true)) refl

pub returns-then-not-rates_good : goal.returns-then-not-rates_good
returns-then-not-rates_good c = rw (refused_12 _ (said_yes c.bands_good.ensures c.if-not-bands_good.false) (said_no c.rates_good.ensures c.if-not-rates_good.true)) refl

pub returns : goal.returns
returns c = rw (accepts_tariff _ (said_yes c.bands_good.ensures c.if-not-bands_good.false) (said_yes c.rates_good.ensures c.if-not-rates_good.false)) c.tariff_of.ensures
