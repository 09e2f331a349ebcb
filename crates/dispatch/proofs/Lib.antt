-- The laws of the crate.
pub mod Calls
pub mod Sizes
pub mod Whole
pub mod Short
pub mod Kept
pub mod Stays
