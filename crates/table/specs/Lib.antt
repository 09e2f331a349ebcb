-- What the contracts of this crate cite.
pub mod Table
pub mod Accepts
