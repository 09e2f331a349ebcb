-- The laws of the walk.
pub mod Steps
pub mod Trip
