-- Stretch: a farm's part of the sheet. CountedSheet: what a sheet with its counts holds, for private functions.
pub mod Stretch
pub mod CountedSheet
