-- LentTableLaws: what good tables say, and that the tests one after the other find it out. BoundLaws: what the bounds are chosen for.
pub mod LentTableLaws
pub mod BoundLaws
