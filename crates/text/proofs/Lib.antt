-- The laws of the crate.
pub mod Digits
pub mod Unique
