-- The definitions of the crate.
pub mod Pairwise
pub mod Figures
pub mod Laws
pub mod Report
