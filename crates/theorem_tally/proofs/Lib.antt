-- The theorems of the crate.
pub mod Same
pub mod Counted
pub mod Exact
pub mod Segments
pub mod Walks
pub mod Sums
pub mod Tallied
pub mod Calls
pub mod Tally
pub mod Small
