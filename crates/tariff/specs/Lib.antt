-- Bounds: paper 3's numbers. Bands: the bands of a tariff and what it charges. Questions: 11 and 12. Pricing: what a tariff as a value
-- charges. Reading: what reading a tariff gives. House: the house tariff. Choices: the number of a caller's choice. Making: a tariff made of its
-- bands, Passed: the bands of a block of distances, both for private functions alone.
pub mod Bounds
pub mod Bands
pub mod Questions
pub mod Pricing
pub mod Reading
pub mod House
pub mod Choices
pub mod Making
pub mod Passed
