-- The edges hold, and what follows for each.
pub mod Edges
pub mod Wrong
