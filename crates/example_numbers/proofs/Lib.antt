-- Each listed number is reached.
pub mod Reached
