-- The edges, as one table.
pub mod Table
pub mod Edges
pub mod Wrong
