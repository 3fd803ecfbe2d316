-- ShuttingLaws: the cases of the two calls, and the change as a difference. MovedLaws: the farms of the yard that shuts. ReadOffLaws: what a buyer
-- reads off the answers.
pub mod ShuttingLaws
pub mod MovedLaws
pub mod ReadOffLaws
