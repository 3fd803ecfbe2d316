-- BitLaws: what the questions asked first answer. NumberLaws: what a number says is what the call answered. NumberByLaws: the same of the calls by a
-- tariff. ShutNumberLaws: of those for a second yard and a shut one. FloorNumberLaws: of the one for a floor.
pub mod BitLaws
pub mod NumberLaws
pub mod NumberByLaws
pub mod ShutNumberLaws
pub mod FloorNumberLaws
