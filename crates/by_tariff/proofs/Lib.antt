-- PlanningByLaws: the plans by a tariff.
pub mod PlanningByLaws
