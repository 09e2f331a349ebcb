-- What the contracts of this crate cite.
pub mod Dispatch
pub mod Whole
