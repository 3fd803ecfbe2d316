-- Table: a table of service costs, and whether it keeps the four-point rule. Rounded: the table in larger units, for private functions alone.
pub mod Table
pub mod Rounded
