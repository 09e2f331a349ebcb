-- The laws of the crate.
pub mod Fails
pub mod Many
pub mod Marks
pub mod Past
pub mod Turns
