-- Laws of the crate.
pub mod Taken
