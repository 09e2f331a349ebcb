-- The laws of the crate.
pub mod Past
pub mod Answers
pub mod Taking
pub mod Walking
pub mod Routed
pub mod Decided
pub mod Keeps
pub mod Apart
pub mod Running
