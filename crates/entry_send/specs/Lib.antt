-- The definitions of the crate.
pub mod Sending
