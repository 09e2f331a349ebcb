-- The edges of reading, and wrong readings.
pub mod Edges
pub mod Wrong
