-- Tables: the instance of two tables, what a set costs by them, and which tables are taken, `good_tables`. Bounds: the four bounds that it asks for.
pub mod Bounds
pub mod Tables
