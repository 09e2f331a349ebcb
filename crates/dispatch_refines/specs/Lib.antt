-- What the laws of this crate speak of.
pub mod Spelt
pub mod Told
pub mod Answer
pub mod Read
pub mod Three
