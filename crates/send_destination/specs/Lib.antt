-- The definitions of the crate.
pub mod Reply
pub mod Destination
