-- The laws of the crate.
pub mod Changes
pub mod Fails
pub mod Counts
