-- Laws of the crate.
pub mod Append
pub mod Held
pub mod Since
pub mod Turns
