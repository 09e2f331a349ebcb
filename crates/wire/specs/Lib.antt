-- What the contracts of this crate cite, and the bits of a word.
pub mod Be
pub mod Lay
pub mod Bits
pub mod Place
