-- PromiseLaws: what is promised of each search. GoesOnLaws: going on without a limit from a stopped set.
pub mod PromiseLaws
pub mod GoesOnLaws
