-- What the contracts of this crate cite, and what its laws state of a spot (Good).
pub mod Spots
pub mod Faults
pub mod Good
