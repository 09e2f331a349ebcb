-- The laws of the lookup.
pub mod Keys
pub mod Rows
pub mod Laws
pub mod Decided
