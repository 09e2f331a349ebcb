-- The laws of the crate.
pub mod Chain
pub mod Reply
pub mod Short
pub mod Laid
pub mod Bytes
