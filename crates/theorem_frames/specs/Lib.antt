-- Calls of the framing function.
pub mod Calls
