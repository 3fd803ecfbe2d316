-- PricingBy: what pricing a set by a tariff answers and writes.
pub mod PricingBy
