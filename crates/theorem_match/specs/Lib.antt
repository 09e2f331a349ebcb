-- Matching and the best match.
pub mod Match
