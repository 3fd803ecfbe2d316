pub mod SignedLaws
pub mod TableLaws
pub mod PassLaws
pub mod RoundedLaws
