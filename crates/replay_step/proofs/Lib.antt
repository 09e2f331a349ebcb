-- The laws of the crate.
pub mod Same
pub mod Leaves
