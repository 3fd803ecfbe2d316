-- PricingLaws: what the calls answer and leave. OfPlanLaws: what is promised of the set in the area.
pub mod PricingLaws
pub mod OfPlanLaws
