-- What others cite of reading.
pub mod Reasons
pub mod Feed
pub mod Routed
