-- The laws of the crate.
pub mod Gauges
pub mod Segments
