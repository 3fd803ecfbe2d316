-- WithinLaws: what fits into 32 bits. MemberLaws: the listed numbers of a set. ListedLaws: which numbers a list has.
pub mod WithinLaws
pub mod MemberLaws
pub mod ListedLaws
