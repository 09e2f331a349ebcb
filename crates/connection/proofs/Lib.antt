-- The laws of the crate.
pub mod Bits
pub mod Ticks
pub mod Rules
pub mod Fails
pub mod Keeps
pub mod Leaves
pub mod Watches
