-- The laws of the crate.
pub mod Upto
pub mod Records
pub mod Stretch
pub mod Config
