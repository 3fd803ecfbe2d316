-- The conversion meets its contract: the arms of the `match` are the cases of `choice_of`.
use borrow.Author.Tests.{ne_eqb}
use Rattle.tariff.specs.Choices.{choice_of}
use Rattle.tariff.proofs.TariffChoiceFromU8.from.Goals as goal

pub returns-in-0 : goal.returns-in-0
unfolding choice_of
returns-in-0 c = rw c.in-0.is

pub returns-in-1 : goal.returns-in-1
unfolding choice_of
returns-in-1 c = rw c.in-1.is

pub returns-in_default : goal.returns-in_default
unfolding choice_of
returns-in_default c = simp (ne_eqb _ _ c.in_default.in_default-own.rest.1, ne_eqb _ _ c.in_default.in_default-own.rest.0.1)
