-- The definitions of the crate.
pub mod Connection
pub mod Event
pub mod Sound
