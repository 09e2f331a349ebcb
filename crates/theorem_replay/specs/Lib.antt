-- What the laws of this crate speak of.
pub mod Entries
pub mod Runs
