-- Within: sets that stay within 32 bits. Members: the numbers of a set, listed.
pub mod Within
pub mod Members
