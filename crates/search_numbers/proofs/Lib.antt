-- SearchSaidLaws: what the number says is what the call answered.
pub mod SearchSaidLaws
