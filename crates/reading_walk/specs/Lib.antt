-- The walk over a datagram.
pub mod Walk
