-- The laws of the crate.
pub mod Demands
