-- Offering: questions 15 and 16, what the call answers, and that it is a floor; a sheet with equal fees. Offered: sums of offers, for private functions.
pub mod Offering
pub mod Offered
