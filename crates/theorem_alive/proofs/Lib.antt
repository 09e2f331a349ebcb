-- The laws of the crate.
pub mod Record
pub mod Events
pub mod Alive
pub mod Started
pub mod Periods
