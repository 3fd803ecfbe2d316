-- SearchOnTables: what the call answers, and which starts are taken; which tables are, crate `tables` says. Bounds: every number of the engine that is
-- not a bound of the tables. Moves has the lists of moves; all else, in Tables, Rows, Near, Sums and Moves, is for private functions alone.
pub mod Bounds
pub mod Tables
pub mod Rows
pub mod Near
pub mod Sums
pub mod Moves
pub mod SearchOnTables
