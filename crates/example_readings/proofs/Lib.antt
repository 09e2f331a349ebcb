-- The edges hold, and no wrong reading meets the definition.
pub mod Edges
pub mod Wrong
