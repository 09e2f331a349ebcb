-- The definitions of the crate.
pub mod Change
pub mod Module
pub mod Count
