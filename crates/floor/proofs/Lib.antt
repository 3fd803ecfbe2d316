-- OfferedLaws: sums of offers. OfferingLaws: the cases of the call, and the floor. ReadOffLaws: what a buyer reads off an accepted sum.
-- LimitedLaws: a floor under limited lists, by a copy of the sheet with equal fees.
pub mod OfferedLaws
pub mod OfferingLaws
pub mod ReadOffLaws
pub mod LimitedLaws
