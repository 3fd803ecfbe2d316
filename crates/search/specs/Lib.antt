-- SearchEnds: where the searches end. Planning: question 7, and what the two plans answer and write. Promises: k yards, "no move left" and demand 3.
-- Written: what is kept of a search's answer, for private functions alone.
pub mod SearchEnds
pub mod Planning
pub mod Promises
pub mod Written
