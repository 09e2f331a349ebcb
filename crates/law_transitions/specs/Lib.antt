-- The definitions of the crate.
pub mod Table
pub mod Transfers
