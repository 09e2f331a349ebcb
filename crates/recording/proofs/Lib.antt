-- The laws of the crate.
pub mod Wraps
pub mod Takes
