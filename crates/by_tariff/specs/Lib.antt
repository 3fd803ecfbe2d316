-- PlanningBy: what the two plans by a tariff answer and write.
pub mod PlanningBy
