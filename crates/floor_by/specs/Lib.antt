-- OfferingBy: what the call answers by a tariff.
pub mod OfferingBy
