-- The laws of the crate.
pub mod Segment
pub mod Takes
pub mod Ticks
pub mod Event
pub mod Calls
pub mod Answer
pub mod Drops
pub mod Read
pub mod Fits
pub mod Told
