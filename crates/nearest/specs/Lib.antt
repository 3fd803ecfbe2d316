-- Nearest: a farm's nearest and second nearest open yard. Choices: what the search for them compares, for private functions.
pub mod Nearest
pub mod Choices
