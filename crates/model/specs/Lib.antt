-- Loops: what loops compute. Least: least members. Sets: sets of numbers. Instance: the problem and its costs.
-- Neighbours: the moves of a search. Search: the search itself. Limit: the search with a limit on moves. Plans: the two searches of document 01.
-- PlansWithin: the same with a limit on moves.
-- TwoLeast: the two least values over a set. Passing: what a loop makes of a value. QuickMetric: a quicker test of metric service costs. Charges:
-- service costs that are worked out from distances. Scaled: costs taken several times. Closing: what closing a facility changes. Floor: a floor under the cost of every set.
-- Answers: a refusal number or a result.
pub mod Loops
pub mod Passing
pub mod Least
pub mod TwoLeast
pub mod Sets
pub mod Instance
pub mod Neighbours
pub mod Search
pub mod Limit
pub mod Plans
pub mod PlansWithin
pub mod QuickMetric
pub mod Charges
pub mod Scaled
pub mod Closing
pub mod Floor
pub mod Answers
