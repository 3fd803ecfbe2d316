-- Starts: where a search begins, and the question that is asked of it.
pub mod Starts
