-- The laws of the crate.
pub mod First
pub mod Each
