-- PlanningLaws: the two plans are searches without a limit on moves. PromiseLaws: "no move left" and demand 3.
pub mod PlanningLaws
pub mod PromiseLaws
