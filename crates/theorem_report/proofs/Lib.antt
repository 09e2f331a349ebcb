-- The theorems of the crate.
pub mod Sums
pub mod Figures
pub mod Joins
pub mod Counts
