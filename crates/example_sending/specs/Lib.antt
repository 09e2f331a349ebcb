-- The examples of the crate.
pub mod Valves
pub mod Setpoint
