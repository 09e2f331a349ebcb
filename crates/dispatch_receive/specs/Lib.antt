-- What the contracts of this crate cite.
pub mod Long
pub mod Walk
pub mod Segment
pub mod Turn
