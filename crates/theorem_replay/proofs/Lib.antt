-- The laws of the crate.
pub mod Distance
pub mod Same
pub mod First
pub mod Step
pub mod Fold
pub mod Replay
pub mod Difference
pub mod Ends
