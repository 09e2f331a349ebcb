-- The definitions of the crate.
pub mod Part
