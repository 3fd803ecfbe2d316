-- Numbers: the answers of the exported calls as numbers of 64 bits, and what holds of a plan by the number that a caller is given.
pub mod Numbers
