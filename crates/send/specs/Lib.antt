-- The definitions of the crate.
pub mod Verdict
pub mod Send
pub mod Inner
