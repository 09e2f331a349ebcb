-- What the contracts of this crate cite, and what a frame is.
pub mod Frame
pub mod Framing
