-- The laws of the crate.
pub mod Written
pub mod Size
pub mod Room
pub mod Once
pub mod Run
pub mod Turned
