-- What the contracts of this crate cite.
pub mod Scan
pub mod Marks
