-- What the contracts of this crate cite.
pub mod Recording
pub mod Entry
