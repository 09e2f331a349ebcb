-- The laws of the crate.
pub mod Records
pub mod Allowed
pub mod Untouched
