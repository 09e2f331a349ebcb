-- Laws of the crate.
pub mod Past
