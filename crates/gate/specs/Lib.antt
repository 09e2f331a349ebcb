-- The definitions of the crate.
pub mod Lent
pub mod Sound
pub mod Inner
pub mod Gate
