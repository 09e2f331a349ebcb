-- The definitions of the crate.
pub mod Force
pub mod Sheet
