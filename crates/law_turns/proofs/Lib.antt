-- Laws of the crate.
pub mod Entries
