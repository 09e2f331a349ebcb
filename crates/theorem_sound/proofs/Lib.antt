-- The laws of the crate.
pub mod Rules
pub mod Given
