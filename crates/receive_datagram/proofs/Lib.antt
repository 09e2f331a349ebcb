-- The laws of a step.
pub mod Laws
