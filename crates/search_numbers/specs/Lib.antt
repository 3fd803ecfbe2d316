-- SearchNumbers: the answers of calls that search as numbers of 64 bits, and how a caller reads them again.
pub mod SearchNumbers
