-- Records: eight bytes, and where they are put in an area. Kinds: the byte of each kind of record.
pub mod Records
pub mod Kinds
