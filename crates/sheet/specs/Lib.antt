-- Hauls: the table of which question 6 is asked, OnePass: what one pass over a good sheet tests, both
-- for private functions alone.
pub mod Hauls
pub mod OnePass
