-- Kinds: what each kind of search goes by, its moves, its outcome and the total of its plan. Planning: what the call answers and leaves, and what is said of a set in the area.
-- SheetTables: the tables that a sheet is read into, Terms: what a kind asks of the engine, both for private functions alone.
pub mod Kinds
pub mod Planning
pub mod SheetTables
pub mod Terms
