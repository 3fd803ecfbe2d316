-- ChoiceLaws: how the loop over the listed yards keeps the nearest.
pub mod ChoiceLaws
pub mod TellLaws
