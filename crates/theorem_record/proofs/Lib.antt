-- The laws of the crate.
pub mod Numbers
pub mod Back
pub mod Answers
pub mod Step
pub mod Replay
pub mod Calls
pub mod Short
pub mod Memory
pub mod Anywhere
