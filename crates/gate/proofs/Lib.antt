-- The laws of the crate.
pub mod Records
pub mod Idle
pub mod Pass
