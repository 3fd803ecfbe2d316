-- ShuttingByLaws: accepted calls are accepted on the sheet of hauls, and the change is a difference there.
pub mod ShuttingByLaws
