-- The definitions of the crate.
pub mod State
pub mod Memory
pub mod Fresh
