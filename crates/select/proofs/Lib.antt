-- Laws of the crate.
pub mod Best
pub mod Scores
pub mod Pass
pub mod Ranks
pub mod Arrivals
