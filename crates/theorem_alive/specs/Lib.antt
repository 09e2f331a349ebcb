-- What a silent run is, a watched record, one that is let go, and why a timer runs.
pub mod Alive
pub mod Periods
