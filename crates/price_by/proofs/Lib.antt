-- PricingByLaws: pricing by a tariff is pricing on the sheet of hauls.
pub mod PricingByLaws
