-- Laws of the world.
pub mod Cells
pub mod Counts
pub mod View
