-- Shutting: a farm's second yard, question 14, and what shutting a yard changes. HaulsMoved: of one farm, for private functions.
pub mod Shutting
pub mod HaulsMoved
