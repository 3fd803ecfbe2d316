-- Pricing: question 8, and what the calls that write a plan answer and leave, pricing among them.
pub mod Pricing
