-- The laws of the crate.
pub mod Spots
pub mod Image
pub mod Calls
