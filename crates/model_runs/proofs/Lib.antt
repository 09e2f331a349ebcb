-- The theorems about runs.
pub mod Same
pub mod Keeps
pub mod Streams
pub mod Trip
