-- The laws of a take.
pub mod Takes
pub mod Leaves
pub mod Runs
