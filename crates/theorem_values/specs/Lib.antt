-- Answers as numbers and values.
pub mod Values
