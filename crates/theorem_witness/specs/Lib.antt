-- A table, and machines over it.
pub mod Gauges
