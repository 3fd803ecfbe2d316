-- HaulLaws: the table of which question 6 is asked. ToldLaws: what the pass tells.
pub mod HaulLaws
pub mod ToldLaws
