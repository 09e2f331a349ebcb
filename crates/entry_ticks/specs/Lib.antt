-- The definitions of the crate.
pub mod Many
pub mod Tick
