-- Laws of the crate.
pub mod Laid
