-- The laws of the crate.
pub mod Given
pub mod Entries
pub mod Silence
