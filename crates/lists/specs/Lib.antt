-- Definitions over numbered things and lists of any element.
pub mod Search
pub mod Each
pub mod Fold
