-- What others cite of routing switches.
pub mod Switches
