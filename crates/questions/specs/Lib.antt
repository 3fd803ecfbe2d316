-- Bounds: the numbers of documents 01 and 02. Sheet: what stands where, and the door to the model.
-- Questions: 1 to 6, and 10. Reading: what they answer together. Shape: what private functions require.
pub mod Bounds
pub mod Sheet
pub mod Questions
pub mod Reading
pub mod Shape
