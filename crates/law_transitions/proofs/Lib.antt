-- The laws of the crate.
pub mod Effect
pub mod Joined
pub mod Transfers
