-- Laws of the crate.
pub mod Transmits
pub mod Setpoint
pub mod Selects
pub mod Takes
