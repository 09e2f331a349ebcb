-- The definitions of the crate.
pub mod Best
pub mod Choose
pub mod Ranks
