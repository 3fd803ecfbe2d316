-- SaidLaws: what a number says is what the call answered.
pub mod SaidLaws
