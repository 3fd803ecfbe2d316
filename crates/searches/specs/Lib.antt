-- SearchingBy: what the searches answer and write. Promises: what is promised of settled plans, and of every one. GoingOn: what is promised of going on
-- from a stopped set.
pub mod SearchingBy
pub mod Promises
pub mod GoingOn
