-- OfferingByLaws: an accepted call is accepted on the sheet of hauls, and its sum is a floor there. LimitedByLaws: a floor under limited lists by a tariff.
pub mod OfferingByLaws
pub mod LimitedByLaws
