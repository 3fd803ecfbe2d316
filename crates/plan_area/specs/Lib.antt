-- Plan: the records of a plan.
pub mod Plan
