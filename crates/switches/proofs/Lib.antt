-- The laws of routing switches.
pub mod Switches
