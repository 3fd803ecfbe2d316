-- StretchLaws, FarmLaws: a farm's stretch.
pub mod StretchLaws
pub mod FarmLaws
