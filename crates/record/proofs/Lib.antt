-- SpliceLaws: bytes written behind bytes. RecordLaws: single records, read and written. WriteLaws: records written one behind the other.
pub mod SpliceLaws
pub mod RecordLaws
pub mod WriteLaws
