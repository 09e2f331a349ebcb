-- Laws of the rules.
pub mod Heads
pub mod Limits
