-- The equations between entry points and the world.
pub mod Less
pub mod Rests
pub mod Left
pub mod Follows
pub mod Arrivals
pub mod Sends
pub mod Becomes
pub mod Gentle
pub mod Modules
pub mod Take
pub mod Takes
pub mod Answered
pub mod Walks
pub mod Segments
pub mod Steps
pub mod Good
