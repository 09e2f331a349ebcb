-- Which runs count as the same, the streams of a run, and who reads segments.
pub mod Same
pub mod Streams
pub mod Trip
