-- The shapes of contracts.
pub mod Shapes
