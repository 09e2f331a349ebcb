-- What the contracts and laws of this crate cite.
pub mod Answer
pub mod Segment
pub mod Walk
pub mod Routes
