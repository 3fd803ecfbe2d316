-- Priced: a sheet of distances with its hauls, and what calls on it ask. Lent: how the sheet of hauls is handed to a call. Blocks: what the
-- pass over the records takes and writes, for private functions alone.
pub mod Priced
pub mod Lent
pub mod Blocks
