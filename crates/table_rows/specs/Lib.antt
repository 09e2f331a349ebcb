-- What the contracts of this crate cite.
pub mod Rows
pub mod Rules
