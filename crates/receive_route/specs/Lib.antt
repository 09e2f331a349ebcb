-- What the contracts of this crate cite.
pub mod Route
pub mod Decided
